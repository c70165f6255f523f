-- Laws of the steps on one row.
pub mod Attempts
pub mod CorrectedRow
