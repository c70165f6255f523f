-- Laws of open columns and of the lines of a matrix.
mod Columns
mod Lines
