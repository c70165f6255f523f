-- What the contracts of the steps cite, beside document 01's definitions.
pub mod Shown
