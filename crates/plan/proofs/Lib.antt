-- The laws of bounds and plans: they agree with the table of relationships, and with the day, and a plan meets each match once.
pub mod Inside
pub mod SoughtMatches
pub mod Ranges
pub mod Looked
pub mod Walked
pub mod Sure
pub mod Suited
