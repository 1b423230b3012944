-- What the demands speak of besides document 01's own words: results that are the same, a history of edits, and the stand-ins that it says to try.
pub mod Settled
pub mod History
pub mod StandIns
