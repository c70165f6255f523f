-- Laws of the rows in order.
pub mod OrderRows
pub mod Order
pub mod OrderNext
