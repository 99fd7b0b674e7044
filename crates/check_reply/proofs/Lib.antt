pub mod TreeLemmas
pub mod ShapeLemmas
pub mod TellLemmas
pub mod LineLemmas
pub mod TextLemmas
