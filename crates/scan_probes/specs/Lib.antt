pub mod work
-- What callers name of the crates below.
pub use Rattle.plan_laws.proofs.FitsLemmas as plan_laws_FitsLemmas
pub use Rattle.plan_laws.proofs.OverLemmas as plan_laws_OverLemmas
