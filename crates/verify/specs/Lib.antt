-- What the contracts inside the check say: tests over lists, and the local tests of an index.
pub mod Passing
pub mod Frames
pub mod Local
pub mod Opening
