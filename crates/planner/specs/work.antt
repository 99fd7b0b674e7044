pub mod Bases
pub mod Finishing
pub mod Near
pub mod Priced
