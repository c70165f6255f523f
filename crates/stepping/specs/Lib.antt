-- What the contracts of the work on a row cite, beside document 01's definitions.
pub mod Worked
