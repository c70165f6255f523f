-- What the contracts of the run cite, beside document 01's definitions.
pub mod Eliminated
