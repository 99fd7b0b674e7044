pub mod Closed
pub mod Fewer
pub mod Meant
pub mod Moved
pub mod Useful
