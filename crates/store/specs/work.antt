pub mod Actions
pub mod Growth
pub mod Kept
pub mod View
