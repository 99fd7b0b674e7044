-- What a step of the walk tells (own).
use Rattle.std.specs.Prelude.{◌≡◌, ℕ, ◌+◌, true, false, ◌≤◌, List, [], ◌∷◌, Option, Some, None, MatchOption}
use Rattle.pg_base.specs.declared.limits.TheConstants.{MOST_LEVELS}
use Rattle.sql_grammar.specs.declared.class.Class.{Class}
use Rattle.sql_grammar.specs.declared.table.Item.{Item}
use Rattle.sql_grammar.specs.declared.stack.Step.{Step}
use Rattle.sql_grammar.specs.declared.stack.Step.TheVariants.{Took, Refused, Ended, TooDeep}
use Rattle.sql_grammar.specs.work.Machine.{depth_of, step_of, may_end, Fits}

-- the first item is taken off; none where there is none
abbrev pub IsPopped : Option Item → List Item → List Item → Type 0
IsPopped top old new = MatchOption top ((old ≡ []) × (new ≡ [])) (λ i. old ≡ i ∷ new)

-- the token was awaited
pub record Taken (t : Class) (old new : List Item) : Type 0 where
  pub step : step_of MOST_LEVELS t old ≡ Some new
  pub fits : Fits 16 new
  pub shallow : depth_of new ≤ MOST_LEVELS

-- what each answer says of the stack before and after; where a level too many opens, the stack is that of a limit of one level more
abbrev pub IsStackStep : Step → Class → List Item → List Item → Type 0
IsStackStep Took t old new = Taken t old new
IsStackStep Refused t old new = ((limit : ℕ) → step_of limit t old ≡ None) × (may_end old ≡ false)
IsStackStep Ended t old new = ((limit : ℕ) → step_of limit t old ≡ None) × (may_end old ≡ true)
IsStackStep TooDeep t old new = (step_of MOST_LEVELS t old ≡ None) × (step_of (MOST_LEVELS + 1) t old ≡ Some new)
