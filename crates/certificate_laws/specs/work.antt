pub mod Arms
pub mod Kept
pub mod Made
pub mod Printing
pub mod Searched
