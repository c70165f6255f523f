-- Laws of the parts of the work on one inequality.
pub mod OpenColumns
pub mod TightRow
