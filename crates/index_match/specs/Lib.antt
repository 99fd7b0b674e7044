pub mod Numbered
pub mod Conditions
pub mod Bounds
pub mod Arms
pub mod Usable
pub mod work
-- What callers name of the crates below.
pub use Rattle.predicate_proof.proofs.Sound as predicate_proof_Sound
pub use Rattle.predicate_proof.specs.Atoms as predicate_proof_Atoms
pub use Rattle.predicate_proof.specs.work.Atoms as predicate_proof_work_Atoms
pub use Rattle.predicate_proof.specs.Derivation as predicate_proof_Derivation
pub use Rattle.predicate_proof.specs.work.Derivation as predicate_proof_work_Derivation
pub use Rattle.predicate_proof.specs.work.Rows as predicate_proof_Rows
