pub mod Arms
pub mod Chosen
pub mod ElementTrees
