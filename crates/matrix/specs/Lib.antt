-- Document 01 (docs/RULES.md), "Text in and out", as definitions: how a text is read, byte by byte, and all that is printed. What a well-formed text is
-- stands in `wellformed`.
pub mod Bytes
pub mod Machine
pub mod Reader
pub mod Poured
pub mod Printed
pub mod Program
