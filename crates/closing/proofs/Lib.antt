-- Laws of step (d).
pub mod CorrectedRows
pub mod ShutTables
