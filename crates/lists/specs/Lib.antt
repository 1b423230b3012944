-- The lists that the definitions are made of, and what is said of one that is being sorted.
pub mod Lists
pub mod Sifting
