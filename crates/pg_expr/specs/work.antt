pub mod AtomSets
pub mod Columns
pub mod CondCode
pub mod Typed
pub mod View
