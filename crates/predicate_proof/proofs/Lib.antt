pub mod Inversion
pub mod Lists
pub mod Sound
pub mod Table
pub mod Weight
