pub mod work
-- What callers name of the crates below.
pub use Rattle.plan_laws.proofs.LeastLemmas as plan_laws_LeastLemmas
pub use Rattle.plan_laws.proofs.UsefulLemmas as plan_laws_UsefulLemmas
pub use Rattle.plan_laws.proofs.WithinLemmas as plan_laws_WithinLemmas
pub use Rattle.plan_laws.specs.Closed as plan_laws_Closed
pub use Rattle.plan_laws.specs.work.Closed as plan_laws_work_Closed
pub use Rattle.plan_laws.specs.work.Useful as plan_laws_Useful
