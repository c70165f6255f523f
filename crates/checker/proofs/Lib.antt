-- Laws of the multiplier checker.
pub mod Judged
pub mod Combined
pub mod Cases
