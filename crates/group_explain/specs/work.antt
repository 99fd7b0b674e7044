pub mod GroupPlans
pub mod Plans
pub mod Texts
