-- What the contracts of the filling cite, beside document 01's definitions.
pub mod Zeros
