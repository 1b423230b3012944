-- The laws of the check: its tests as facts, its loops, and that it passes exactly on an index.
pub mod LoopTurns
pub mod SlotsCut
pub mod Passing
pub mod Framed
pub mod SlotLevels
pub mod Known
pub mod Law
pub mod TestsPassed
pub mod Opening
