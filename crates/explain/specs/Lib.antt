pub mod Texts
pub mod work
-- What callers name of the crates below.
pub use Rattle.plan_laws.proofs.WellBoundLemmas as plan_laws_WellBoundLemmas
pub use Rattle.plan_laws.specs.sort_rows_ColumnLemmas as sort_rows_ColumnLemmas
