-- The laws of a walk: what is listed and cut, the stretches of an index, the looks of a level and of all levels.
pub mod Written
pub mod PartTurns
pub mod LevelSlots
pub mod Searched
pub mod Visits
pub mod LooksMeet
pub mod StretchWords
pub mod Levels
