pub mod Grouping
pub mod Shapes
