-- Document 01, which docs/RULES.md says in full, as definitions that compute, in its order.
pub mod Elimination
pub mod Inequalities
pub mod Outcomes
pub mod Checker
pub mod Reading
pub mod Numbers
pub mod Lent
