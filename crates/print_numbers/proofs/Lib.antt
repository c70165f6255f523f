-- Laws of printing, of digits and of signs.
pub mod Printing
mod Digits
mod Signs
