pub mod LoadedLemmas
pub mod AfterLemmas
pub mod DefinedLemmas
pub mod JoinedLemmas
pub mod BoundLemmas
