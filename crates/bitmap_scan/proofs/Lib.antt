pub mod MarkedLemmas
pub mod PickedLemmas
pub mod LeastLemmas
pub mod ScanLemmas
pub mod ArmLemmas
pub mod KeptLemmas
pub mod OfferLemmas
pub mod ElementLemmas
