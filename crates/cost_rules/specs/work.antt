pub mod Costs
pub mod Powers
pub mod Worse
