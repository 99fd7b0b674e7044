pub mod EstimateLemmas
pub mod PriceLemmas
pub mod PlaceLemmas
pub mod GivenLemmas
pub mod BaseLemmas
pub mod NearLemmas
pub mod SearchLemmas
pub mod TableLemmas
