-- What the exported functions answer in numbers.
pub mod Numbered
