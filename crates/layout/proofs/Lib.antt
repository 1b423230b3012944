-- The laws of the definitions, for any scale and any m.

-- levels and partitions
pub mod Partitions
pub mod Numbers
pub mod ByLevel
pub mod MostPartitions
pub mod RulerCells
pub mod RulerIf
-- words, rows and slots
pub mod Rows
pub mod RowParts
pub mod Subdivisions
pub mod Sides
pub mod Keys
pub mod RowOrder
pub mod SlotMembers
pub mod Apart
pub mod Counted
pub mod Reported
-- refusals, tables and indexes
pub mod Chains
pub mod Links
pub mod FrameTests
pub mod TimesFirst
pub mod Tables
pub mod Indexes
pub mod LocalConditions
pub mod Checked
-- an index read and viewed
pub mod ByDirectory
pub mod Totals
pub mod Viewed
-- edits
pub mod SortedLists
pub mod SlotEdited
pub mod MostEntries
pub mod EditsBuild
pub mod Given
pub mod Left
pub mod Reordered
pub mod TwoRulers
-- document 01's examples
pub mod Starred
