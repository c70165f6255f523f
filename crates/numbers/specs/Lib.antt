-- The answers in numbers.
pub mod Numbers
