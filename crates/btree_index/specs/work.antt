pub mod Adding
pub mod Bounds
pub mod Edges
pub mod Pages
pub mod Sides
pub mod Spans
pub mod Tree
