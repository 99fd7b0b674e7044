pub mod Covering
pub mod Leasts
pub mod Serving
