pub mod PlainLemmas
pub mod NodeLemmas
pub mod BehindLemmas
pub mod OwnLemmas
pub mod BitsLemmas
pub mod ReadLemmas
pub mod UniqueLemmas
