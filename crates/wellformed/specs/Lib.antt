-- What a well-formed text is, and what is promised of the reader.
pub mod Grammar
pub mod Promised
