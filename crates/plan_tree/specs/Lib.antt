pub mod Plans
pub mod Bitmaps
pub mod Keys
pub mod Space
pub mod Costs
pub mod Least
pub mod Paths
pub mod Entries
pub mod Run
pub mod Counts
pub mod work
-- What callers name of the crates below.
pub use Rattle.sql_query.specs.catalog_Contents as catalog_Contents
pub use Rattle.sql_query.specs.catalog_work_Contents as catalog_work_Contents
pub use Rattle.eq_classes.specs.Classes as eq_classes_Classes
pub use Rattle.eq_classes.specs.Clauses as eq_classes_Clauses
pub use Rattle.eq_classes.specs.work.Clauses as eq_classes_work_Clauses
pub use Rattle.eq_classes.specs.Holding as eq_classes_Holding
pub use Rattle.eq_classes.specs.work.Holding as eq_classes_work_Holding
pub use Rattle.eq_classes.specs.Listing as eq_classes_Listing
pub use Rattle.eq_classes.specs.work.Listing as eq_classes_work_Listing
pub use Rattle.eq_classes.specs.Parts as eq_classes_Parts
pub use Rattle.eq_classes.specs.work.Parts as eq_classes_work_Parts
pub use Rattle.eq_classes.specs.declared.classes.ClassNo as eq_classes_classes_ClassNo
pub use Rattle.index_match.specs.Arms as index_match_Arms
pub use Rattle.index_match.specs.work.Arms as index_match_work_Arms
pub use Rattle.index_match.specs.Conditions as index_match_Conditions
pub use Rattle.index_match.specs.work.Conditions as index_match_work_Conditions
pub use Rattle.index_match.specs.Numbered as index_match_Numbered
pub use Rattle.index_match.specs.work.Numbered as index_match_work_Numbered
pub use Rattle.index_match.specs.Usable as index_match_Usable
pub use Rattle.path_cost.specs.Columns as path_cost_Columns
pub use Rattle.path_cost.specs.work.Columns as path_cost_work_Columns
pub use Rattle.pathkeys.proofs.CoveringLemmas as pathkeys_CoveringLemmas
pub use Rattle.pathkeys.proofs.OnceLemmas as pathkeys_OnceLemmas
pub use Rattle.pathkeys.specs.work.Finding as pathkeys_Finding
pub use Rattle.pathkeys.specs.Keys as pathkeys_Keys
pub use Rattle.pathkeys.specs.work.Keys as pathkeys_work_Keys
pub use Rattle.pathkeys.specs.Sorted as pathkeys_Sorted
pub use Rattle.pathkeys.specs.work.Sorted as pathkeys_work_Sorted
pub use Rattle.index_match.specs.predicate_proof_Sound as predicate_proof_Sound
pub use Rattle.index_match.specs.predicate_proof_Derivation as predicate_proof_Derivation
pub use Rattle.index_match.specs.predicate_proof_work_Derivation as predicate_proof_work_Derivation
pub use Rattle.index_match.specs.predicate_proof_Rows as predicate_proof_Rows
pub use Rattle.sql_query.specs.Queries as sql_query_Queries
pub use Rattle.sql_query.specs.declared.window.Window as sql_query_window_Window
