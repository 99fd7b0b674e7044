pub mod Statuses
pub mod Runs
pub mod Summaries
pub mod Script
pub mod Commands
pub mod work
