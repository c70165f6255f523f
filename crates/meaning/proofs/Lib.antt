-- What a reply means, proved of the definitions.
mod Entered
mod Names
mod Replies
mod Conflicts
mod Words
pub mod Promises
