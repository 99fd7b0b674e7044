pub mod Beneath
pub mod Compared
pub mod Nodes
