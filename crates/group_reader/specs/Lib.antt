pub mod Written
pub mod Binding
pub mod work
