pub mod AsMeant
pub mod Columns
pub mod Readings
pub mod Soundness
pub mod Statements
pub mod Statistics
pub mod Tables
