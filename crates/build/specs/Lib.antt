-- What the contracts inside a build say: entries placed, a half laid out, rows judged.
pub mod Placed
pub mod HalfBuilt
pub mod RowsJudged
