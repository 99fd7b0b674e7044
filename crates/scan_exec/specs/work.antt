pub mod AtScene
pub mod Coming
pub mod Handed
pub mod Held
pub mod Kinds
pub mod Plans
pub mod Rows
pub mod Scene
