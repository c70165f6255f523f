-- What the contracts of the checks cite, beside document 01's definitions.
pub mod Checked
