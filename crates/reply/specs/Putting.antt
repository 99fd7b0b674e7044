-- Bytes on their way to a sink: the first are written, the last are pending. Own.
use Rattle.std.specs.Prelude.{ℕ, ◌≡◌, Result, IsErrOf}
use Rattle.pg_base.specs.Causes.{Rose}

-- the stop for writing has its cause in the sink's faults, and nothing else raises them
pub record HasWriteCause {T E : Type 0} (stop : E) (before now : ℕ) (result : Result T E) : Type 0 where
  pub write : IsErrOf result stop → Rose before now
  pub quiet : (IsErrOf result stop → ⊥) → now ≡ before
