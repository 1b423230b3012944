-- The laws of the views: where words stand, what they say on an index, and what each entry answers.
pub mod SlotWords
pub mod Readings
pub mod ViewEntries
