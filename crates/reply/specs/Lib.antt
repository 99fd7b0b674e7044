pub mod Answers
pub mod Effort
pub mod Measures
pub mod Replies
pub mod Putting
pub mod work
-- What callers name of the crates below.
pub use Rattle.explain.specs.Texts as explain_Texts
pub use Rattle.explain.specs.work.Texts as explain_work_Texts
pub use Rattle.executor.specs.plan_laws_FinishedOrderLemmas as plan_laws_FinishedOrderLemmas
pub use Rattle.executor.specs.plan_laws_FinishedLemmas as plan_laws_FinishedLemmas
pub use Rattle.executor.specs.plan_laws_WellBoundLemmas as plan_laws_WellBoundLemmas
pub use Rattle.executor.specs.scan_exec_Coming as scan_exec_Coming
pub use Rattle.executor.specs.scan_exec_work_Coming as scan_exec_work_Coming
pub use Rattle.explain.proofs.KeyLemmas as explain_KeyLemmas
