-- Laws of step (c).
pub mod TurnedRows
pub mod TurnedStep
