pub mod Days
pub mod Forms
pub mod Numerics
pub mod Shown
pub mod Times
pub mod work
