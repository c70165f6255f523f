-- Laws of the outcome after a run that finished: the two looks, rows within the limit, the tables of each outcome.
pub mod Looked
pub mod TightWithin
pub mod Tabled
pub mod Worked
pub mod Finished
