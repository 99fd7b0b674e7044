pub mod KeyOrderLemmas
pub mod TruthLemmas
pub mod TableLemmas
pub mod ClassLemmas
pub mod NameLemmas
