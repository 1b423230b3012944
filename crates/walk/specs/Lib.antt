-- What the contracts of a walk say: the words of a part, a part that is cut, the looks of a level and of all levels, and the laws of a listing.
pub mod Part
pub mod Cut
pub mod Levels
pub mod Listings
pub mod Seen
