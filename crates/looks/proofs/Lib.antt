-- Laws of the first row that has a property, and of the two looks.
pub mod FirstRows
pub mod Conflicts
pub mod Chunks
