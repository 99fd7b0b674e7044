pub mod Shapes
pub mod Groups
pub mod GroupCosts
pub mod work
