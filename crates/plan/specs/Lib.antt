-- What the contracts of bounds and plans say.
pub mod Bounds
pub mod Sought
pub mod Plan
pub mod Looks
