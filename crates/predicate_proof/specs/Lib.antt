pub mod Atoms
pub mod Derivation
pub mod work
