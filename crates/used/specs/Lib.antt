-- What the contracts of the set used cite, beside document 01's definitions.
pub mod Shown
pub mod Carrying
