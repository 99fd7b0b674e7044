pub mod Closed
pub mod Moved
pub mod work
-- What callers name of the crates below.
pub use Rattle.plan_tree.specs.index_match_Numbered as index_match_Numbered
pub use Rattle.plan_tree.specs.index_match_work_Numbered as index_match_work_Numbered
pub use Rattle.plan_tree.specs.path_cost_Columns as path_cost_Columns
pub use Rattle.plan_tree.specs.path_cost_work_Columns as path_cost_work_Columns
pub use Rattle.sort_rows.proofs.ColumnLemmas as sort_rows_ColumnLemmas
pub use Rattle.sort_rows.proofs.ListLemmas as sort_rows_ListLemmas
pub use Rattle.sort_rows.proofs.RankLemmas as sort_rows_RankLemmas
