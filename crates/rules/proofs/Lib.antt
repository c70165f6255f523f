-- What is computed on the definitions, and laws of them for the crates above.
pub mod Case
pub mod Document
pub mod Compared
pub mod Lengths
pub mod Within
pub mod RowInHand
pub mod RunWithin
