pub mod Columns
pub mod KeySource
pub mod Keyed
pub mod Leads
pub mod Rows
