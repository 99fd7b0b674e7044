pub mod Columns
pub mod Cond
pub mod Conjuncts
pub mod Pushed
pub mod Truths
pub mod Typed
pub mod work
