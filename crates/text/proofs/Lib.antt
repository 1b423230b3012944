-- The laws of the crate, a file for each matter, and document 01's own input as an example.
pub mod Parting
pub mod FieldRead
pub mod Meaning
pub mod Writing
pub mod RoundTrip
pub mod LineSteps
pub mod Longest
pub mod LineExamples
