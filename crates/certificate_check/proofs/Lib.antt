pub mod CheckLemmas
pub mod CostLemmas
pub mod LeastLemmas
