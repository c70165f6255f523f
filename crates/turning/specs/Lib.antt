-- What the contracts of step (c) cite, beside document 01's definitions.
pub mod Turned
