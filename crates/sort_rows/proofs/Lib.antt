pub mod ColumnLemmas
pub mod LeadLemmas
pub mod ListLemmas
pub mod OrderLemmas
pub mod RankLemmas
pub mod RowLemmas
pub mod SortLemmas
