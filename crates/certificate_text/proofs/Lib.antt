pub mod EntryLemmas
pub mod NodeLemmas
pub mod WordLemmas
pub mod NumeralLemmas
