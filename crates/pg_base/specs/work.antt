pub mod Memories
pub mod Sets
pub mod StdEdge
