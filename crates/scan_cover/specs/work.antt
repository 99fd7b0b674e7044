pub mod Arms
pub mod Covering
pub mod Limits
pub mod Scanning
pub mod Trees
