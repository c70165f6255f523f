-- Laws of the steps of one row.
pub mod Turns
pub mod Made
pub mod Shuts
pub mod Going
pub mod LeastBits
