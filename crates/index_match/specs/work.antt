pub mod Arms
pub mod Bounds
pub mod Conditions
pub mod Numbered
pub mod Slots
