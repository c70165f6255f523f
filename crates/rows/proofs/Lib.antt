-- Laws of rows and of tables, for this crate's functions and for the crates above.
pub mod Lists
pub mod Sweep
pub mod Bounded
pub mod Loops
pub mod TableLaws
pub mod Algebra
pub mod Divisors
pub mod SmallestLaws
