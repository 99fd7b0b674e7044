pub mod Fields
pub mod Order
pub mod Truths
pub mod Types
pub mod ColumnOrder
pub mod Sorting
pub mod Kinds
pub mod work
