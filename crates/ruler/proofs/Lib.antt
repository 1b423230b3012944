-- The laws of levels and of scales.
pub mod CellLevels
pub mod Fair
pub mod RulerMade
pub mod Shares
pub mod Shift
pub mod Times
pub mod Zeros
pub mod Pieces
