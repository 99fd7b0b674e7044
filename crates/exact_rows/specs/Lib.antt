pub mod Rows
pub mod work
