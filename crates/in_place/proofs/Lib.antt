-- Laws of the work on one row of a table in place.
pub mod InPlace
