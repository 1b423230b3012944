-- The laws on lists that every crate above cites.

-- tests, members, counts and sums
pub mod Tests
pub mod Members
pub mod Kept
pub mod Counts
pub mod Sums
pub mod Bounded
-- lists made of a function, joined, padded and compared
pub mod Upto
pub mod Replaced
pub mod Joined
pub mod Padded
pub mod Same
-- order
pub mod Sorting
pub mod Sublists
pub mod Alike
pub mod Sifting
pub mod Halving
-- loops, and parts that are lent
pub mod Stores
pub mod Lent
pub mod Overwritten
pub mod Backward
