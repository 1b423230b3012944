-- Document 01, "Ruler and cells".
pub mod Ruler
pub mod Made
