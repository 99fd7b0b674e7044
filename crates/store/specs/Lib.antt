pub mod Kept
pub mod Actions
pub mod work
