-- What callers name of the crates below.
pub use Rattle.plan_laws.proofs.IndexOrderLemmas as plan_laws_IndexOrderLemmas
pub use Rattle.plan_laws.proofs.KeyLemmas as plan_laws_KeyLemmas
