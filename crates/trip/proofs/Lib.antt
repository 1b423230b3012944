-- The laws of trips with the same words, of the days, of the codes of relationships, that only the order of times counts, and that exactly one of thirteen holds.
pub mod SameWords
pub mod Days
pub mod Codes
pub mod Naming
pub mod Ranks
pub mod ExactlyOne
pub mod CountsAddUp
