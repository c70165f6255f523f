-- Two answers that one contract allows are equal.
pub mod OneAnswer
