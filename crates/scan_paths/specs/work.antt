pub mod Reached
pub mod Scans
