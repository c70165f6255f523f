-- Laws of a row and a multiple of another, and of the signs that tell whether its numbers are within the limit.
pub mod Blended
pub mod Signs
