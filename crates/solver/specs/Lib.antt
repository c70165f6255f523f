-- What the contracts of the solver cite, beside document 01's definitions.
pub mod Answered
