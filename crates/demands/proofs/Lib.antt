-- The demands of the product as theorems, that exactly one of thirteen codes holds, that every contract settles its answer, and that no stand-in meets one.
pub mod Settled
pub mod SettledParts
pub mod SettledPrograms
pub mod Refusals
pub mod Exact
pub mod Edits
pub mod Thirteen
pub mod Rulers
pub mod StandIns
pub mod LandingLaws
