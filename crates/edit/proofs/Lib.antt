-- The laws of edits.

-- one slot, and a half slot after slot
pub mod OneSlot
pub mod Spotted
pub mod Halfway
pub mod Between
pub mod Grown
pub mod Shrunk
-- the tests, and the whole index
pub mod IndexRead
pub mod Chained
pub mod Removed
pub mod HalfLent
