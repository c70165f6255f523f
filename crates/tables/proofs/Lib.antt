-- Laws of loops over the rows of a table.
pub mod Rowed
pub mod Multiples
