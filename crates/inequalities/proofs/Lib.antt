-- Laws of the inequalities worked one after the other.
pub mod WorkedRows
