-- What the contract of the rows in order cites, beside document 01's definitions.
pub mod Ran
