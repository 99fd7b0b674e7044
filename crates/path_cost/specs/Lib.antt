pub mod Columns
pub mod Ranges
pub mod Selectivity
pub mod Estimates
pub mod Runs
pub mod Costs
pub mod work
