-- What document 01 (docs/RULES.md) promises, as statements; the theorems stand under proofs/.
pub mod Meaning
pub mod Solutions
pub mod Rows
pub mod Listed
pub mod Refusals
pub mod Answers
pub mod Verdicts
