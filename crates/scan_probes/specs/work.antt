pub mod Filters
pub mod Probes
pub mod Scenes
pub mod Values
