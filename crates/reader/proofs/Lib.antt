-- Laws of the second pass over a text, and of what is answered.
mod Entered
pub mod Answered
