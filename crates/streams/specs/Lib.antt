-- What was read of a text.
pub mod Read
