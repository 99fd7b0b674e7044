pub mod Causes
pub mod Faults
pub mod Names
pub mod Reading
pub mod Sets
pub mod Writing
pub mod work
