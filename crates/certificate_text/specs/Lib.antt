pub mod Texts
pub mod HasText
pub mod work
-- What callers name of the crates below.
pub use Rattle.explain.proofs.KeyLemmas as explain_KeyLemmas
pub use Rattle.explain.specs.Texts as explain_Texts
pub use Rattle.explain.specs.work.Texts as explain_work_Texts
pub use Rattle.explain.specs.plan_laws_WellBoundLemmas as plan_laws_WellBoundLemmas
pub use Rattle.explain.specs.sort_rows_ColumnLemmas as sort_rows_ColumnLemmas
pub use Rattle.plan_check.proofs.UnfoldLemmas as plan_check_UnfoldLemmas
pub use Rattle.plan_check.specs.Certificates as plan_check_Certificates
pub use Rattle.plan_check.specs.Limit as plan_check_Limit
pub use Rattle.plan_check.specs.Tables as plan_check_Tables
pub use Rattle.plan_check.specs.Views as plan_check_Views
pub use Rattle.plan_check.specs.work.Views as plan_check_work_Views
pub use Rattle.plan_check.specs.declared.entry.Node as plan_check_entry_Node
pub use Rattle.plan_check.specs.declared.entry.Side as plan_check_entry_Side
pub use Rattle.plan_tree.specs.Plans as plan_tree_Plans
