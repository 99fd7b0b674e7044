pub mod Seen
pub mod work
