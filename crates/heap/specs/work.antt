pub mod Lending
pub mod Loading
pub mod Stored
pub mod TidSets
pub mod Tuples
