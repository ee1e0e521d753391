pub mod Rows
pub mod Numbers
pub mod Taking
pub mod Columns
