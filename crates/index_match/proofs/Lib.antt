pub mod SlotLemmas
pub mod BoundLemmas
pub mod FoundLemmas
pub mod ArmLemmas
pub mod UsableLemmas
pub mod PartLemmas
