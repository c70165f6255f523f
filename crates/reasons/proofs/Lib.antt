-- Laws of the reason of a closed column.
pub mod ShutRows
pub mod ShutReasons
