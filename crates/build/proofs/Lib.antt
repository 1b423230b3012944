-- The laws of a build.

-- its tests
pub mod RowsJudged
pub mod Says
-- a half, from the counts of its slots to its words in order
pub mod Tally
pub mod Belonging
pub mod RowTurns
pub mod SortedRows
pub mod Ordering
pub mod Whole
