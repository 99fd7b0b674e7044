pub mod Numbered
pub mod Judging
pub mod work
