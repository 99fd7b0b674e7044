pub mod work
-- What callers name of the crates below.
pub use Rattle.join_cover.proofs.CoverLemmas as join_cover_CoverLemmas
pub use Rattle.join_cover.specs.work.Serving as join_cover_Serving
pub use Rattle.join_cover.specs.declared.uncovered.Uncovered as join_cover_uncovered_Uncovered
pub use Rattle.join_cover.specs.entry_check_Owning as entry_check_Owning
pub use Rattle.join_cover.specs.entry_check_PlaceLemmas as entry_check_PlaceLemmas
pub use Rattle.join_cover.specs.entry_check_ScanLemmas as entry_check_ScanLemmas
pub use Rattle.join_cover.specs.entry_check_numbers_Own as entry_check_numbers_Own
