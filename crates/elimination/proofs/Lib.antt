-- Laws of the run over lent tables: how it begins, and how it ends.
pub mod Begun
pub mod Ended
