-- What a reply of the program says of the text that it was given.
pub mod Texts
