pub mod Making
pub mod Owning
pub mod Parts
pub mod Telling
pub mod Working
