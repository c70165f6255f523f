-- Whole numbers, as document 01 uses them.
pub mod Limit
pub mod Gcd
pub mod Quotient
pub mod BitLength
