-- Laws of the tables that the run starts with.
pub mod UnitRows
