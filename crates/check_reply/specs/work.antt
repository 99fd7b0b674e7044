pub mod Checked
pub mod Telling
