-- The laws of the session's replies and turns.
pub mod Replies
pub mod SessionTurns
