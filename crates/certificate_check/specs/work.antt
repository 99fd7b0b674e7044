pub mod Checked
pub mod Pricing
