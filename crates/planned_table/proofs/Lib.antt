pub mod GatherLemmas
pub mod OrderLemmas
pub mod NumberLemmas
pub mod MakeLemmas
pub mod WholeLemmas
