pub mod DrawingLemmas
pub mod LimitLemmas
pub mod PriceLemmas
pub mod PuttingLemmas
pub mod ReplyLemmas
pub mod RowLemmas
pub mod MeasureLemmas
