pub mod Opening
pub mod work
-- What callers name of the crates below.
pub use Rattle.plan_laws.specs.Closed as plan_laws_Closed
pub use Rattle.plan_laws.specs.work.Closed as plan_laws_work_Closed
pub use Rattle.plan_laws.proofs.FinishedOrderLemmas as plan_laws_FinishedOrderLemmas
pub use Rattle.plan_laws.proofs.FinishedLemmas as plan_laws_FinishedLemmas
pub use Rattle.plan_laws.proofs.WellBoundLemmas as plan_laws_WellBoundLemmas
pub use Rattle.scan_exec.specs.Coming as scan_exec_Coming
pub use Rattle.scan_exec.specs.work.Coming as scan_exec_work_Coming
pub use Rattle.scan_exec.specs.store_Kept as store_Kept
pub use Rattle.scan_exec.specs.store_work_Kept as store_work_Kept
