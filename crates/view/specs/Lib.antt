-- What the contracts inside the views say of a directory.
pub mod Directory
pub mod Views
