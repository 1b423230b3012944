-- The laws of an input that comes in chunks.
pub mod Keeping
pub mod Feeding
pub mod Holding
