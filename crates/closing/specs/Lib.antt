-- What the contracts of step (d) cite, beside document 01's definitions.
pub mod Shut
