pub mod Parts
pub mod Passed
pub mod Reading
