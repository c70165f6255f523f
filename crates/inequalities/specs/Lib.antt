-- What the contracts of the work on all inequalities cite, beside document 01's definitions.
pub mod Worked
