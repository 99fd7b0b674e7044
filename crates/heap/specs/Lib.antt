pub mod Loading
pub mod Stored
pub mod Tuples
pub mod work
