pub mod Powers
pub mod Costs
pub mod Scans
pub mod work
