pub mod AddingLemmas
pub mod PricingLemmas
pub mod TextLemmas
pub mod ReadLemmas
pub mod ProposalLemmas
pub mod NameLemmas
pub mod PartLemmas
pub mod QuoteLemmas
