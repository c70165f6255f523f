-- Laws of the set used.
pub mod Reasons
mod Carried
