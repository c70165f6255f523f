-- Laws of the work on one row.
pub mod Works
mod Gcds
pub mod Starts
