-- Document 01, the session program: an input that comes in chunks.
pub mod Line
pub mod Feeding
