pub mod Classes
pub mod Clauses
pub mod Equality
pub mod Grouping
pub mod Holding
pub mod Listing
pub mod Parts
pub mod work
