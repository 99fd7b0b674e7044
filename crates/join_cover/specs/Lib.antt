pub mod work
-- What callers name of the crates below.
pub use Rattle.entry_check.proofs.PartLemmas as entry_check_PartLemmas
pub use Rattle.entry_check.proofs.PlaceLemmas as entry_check_PlaceLemmas
pub use Rattle.entry_check.proofs.ScanLemmas as entry_check_ScanLemmas
pub use Rattle.entry_check.proofs.WorkLemmas as entry_check_WorkLemmas
pub use Rattle.entry_check.specs.work.Owning as entry_check_Owning
pub use Rattle.entry_check.specs.declared.numbers.Own as entry_check_numbers_Own
pub use Rattle.entry_check.specs.declared.scans.ByIndex as entry_check_scans_ByIndex
pub use Rattle.entry_check.proofs.CostLemmas as entry_check_CostLemmas
pub use Rattle.entry_check.specs.plan_space_OrderLemmas as plan_space_OrderLemmas
