-- A page in code, and what is printed on it.
pub mod Shown
