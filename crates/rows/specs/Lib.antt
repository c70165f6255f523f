-- Rows of whole numbers, and tables of rows.
pub mod Row
pub mod Table
