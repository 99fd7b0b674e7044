pub mod CoverLemmas
pub mod ListLemmas
pub mod WalkLemmas
pub mod LeastLemmas
pub mod MergeLemmas
