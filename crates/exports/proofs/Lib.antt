-- Laws of the exported functions, and the example that is printed.
mod Room
pub mod Example
