pub mod Faults
pub mod Machine
pub mod Reading
pub mod Steps
pub mod Table
pub mod Terminals
pub mod Unique
pub mod Walk
