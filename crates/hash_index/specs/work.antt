pub mod Chains
pub mod Groups
pub mod Hash
pub mod Held
