-- What the contracts of the outcomes cite, beside document 01's definitions.
pub mod Answered
