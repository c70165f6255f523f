-- The answer that an outcome and the seven result tables show together, passed on for those who cite the contracts of `solve` and `solve_in`.
pub use Rattle.outcomes.specs.Answered.{answer, answer_in, tables, tables_in}
