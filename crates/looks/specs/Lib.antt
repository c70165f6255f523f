-- What the contracts of the two looks cite, beside document 01's definitions.
pub mod Found
