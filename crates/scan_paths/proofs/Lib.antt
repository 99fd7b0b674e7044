pub mod TakingLemmas
pub mod SpaceLemmas
pub mod IndexLemmas
pub mod ReachLemmas
