-- Document 01, the session program: what it writes, and what a line does.
pub mod Reply
pub mod Session
