pub mod WordLemmas
pub mod MeaningLemmas
pub mod AddLemmas
pub mod ClassLemmas
pub mod WellLemmas
pub mod FormLemmas
pub mod OverLemmas
pub mod FoundLemmas
