-- The laws of the C functions: each says in numbers what the entry behind it says, of the ruler that its value names.
pub mod Thin
pub mod NamedRulers
