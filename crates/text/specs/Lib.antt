-- The bytes of the session program, as document 01 has them: bytes that part others, numbers, commands, lines, and numbers written.
pub mod Bytes
pub mod Number
pub mod Command
pub mod Lines
pub mod Decimal
