-- Working words beside those of `Putting`.
use Rattle.std.specs.Prelude.{ℕ, ◌≡◌, List, ◌++◌, Result, MatchResult}
use Rattle.std.specs.declared.option.Option.{Option}
use Rattle.std.specs.Io.KnownBytes.{Appends}
use Rattle.pg_base.specs.Writing.{AppendsPrefix}

-- from one state of a sink and its pending bytes to a later one, these bytes were put behind them
pub record HasPut (old new : Option (List ℕ)) (pending later bytes : List ℕ) : Type 0 where
  pub written : List ℕ
  pub appended : Appends old new written
  pub together : written ++ later ≡ pending ++ bytes

-- what a call that puts these bytes did: all of them, or it stopped with some first bytes written
abbrev pub Puts : {T E : Type 0} → Option (List ℕ) → Option (List ℕ) → List ℕ → List ℕ → Result T E → List ℕ → Type 0
Puts old new pending later result bytes = MatchResult result (λ _. HasPut old new pending later bytes) (λ _. AppendsPrefix old new (pending ++ bytes))
