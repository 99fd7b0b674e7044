pub mod TieLemmas
pub mod RunLemmas
pub mod OrderLemmas
pub mod LeastLemmas
pub mod CallLemmas
pub mod KeyLemmas
pub mod BagLemmas
