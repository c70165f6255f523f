-- Laws of the checks.
pub mod Verdicts
