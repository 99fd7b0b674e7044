pub mod Texts
pub mod Tells
pub mod Lines
pub mod work
