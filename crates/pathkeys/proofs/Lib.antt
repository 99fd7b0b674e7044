pub mod CoveringLemmas
pub mod OnceLemmas
pub mod StepLemmas
