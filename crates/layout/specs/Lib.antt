-- Document 01 as definitions, in its order.
pub mod Outcomes
pub mod Stored
pub mod Words
pub mod Answers
pub mod Refusals
pub mod Calls
pub mod Examples
