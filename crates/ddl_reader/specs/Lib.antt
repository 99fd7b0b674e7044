pub mod Block
pub mod Types
pub mod Lists
pub mod Columns
pub mod Tables
pub mod Statistics
pub mod Statements
pub mod work
