-- Laws of bytes, of counts, of what is written over a lent table and of what is printed, for the crates above.
pub mod ByteKinds
pub mod Counts
pub mod Written
pub mod Joined
pub mod Spaced
pub mod Length
pub mod Replies
