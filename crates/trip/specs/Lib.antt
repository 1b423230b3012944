-- Document 01, "Relationships", and what trips, windows and questions are made of.
pub mod Relationships
pub mod Trips
