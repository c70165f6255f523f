-- Laws of whole numbers, for this crate's functions and for the crates above.
pub mod Integers
pub mod Ring
pub mod Reify
pub mod Order
pub mod Linear
pub mod Divides
pub mod GcdLaws
pub mod Division
pub mod QuotientLaws
pub mod Bounds
pub mod Steps
pub mod Taken
pub mod BitLengthLaws
pub mod Examples
