-- What the functions above keep in bounds.
pub mod Sound
