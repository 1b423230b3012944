-- What each C function says, in numbers.
pub mod Said
