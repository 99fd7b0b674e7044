pub mod PowerLemmas
pub mod RisingLemmas
pub mod CapLemmas
pub mod WorseLemmas
