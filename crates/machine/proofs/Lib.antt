-- A byte keeps the machine in bounds, for the crates above.
pub mod Kept
