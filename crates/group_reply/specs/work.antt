pub mod Columns
pub mod Drawing
