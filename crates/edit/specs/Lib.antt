-- What the contracts inside an edit say: a slot, a half, and the search for an id.
pub mod SlotFound
pub mod HalfEdited
pub mod Search
pub mod SlotSteps
