pub mod Atoms
pub mod Derivation
pub mod Notes
pub mod Rows
