pub mod work
-- What callers name of the crates below.
pub use Rattle.plan_check.proofs.BeatingLemmas as plan_check_BeatingLemmas
pub use Rattle.plan_check.specs.work.Beating as plan_check_Beating
pub use Rattle.plan_check.specs.Reasons as plan_check_Reasons
pub use Rattle.plan_space.proofs.JoinLemmas as plan_space_JoinLemmas
pub use Rattle.plan_space.proofs.KeyLemmas as plan_space_KeyLemmas
pub use Rattle.plan_space.proofs.OrderLemmas as plan_space_OrderLemmas
