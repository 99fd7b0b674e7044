-- What the walk tells: the facts on its stack from which the faults follow (own).
use Rattle.std.specs.Prelude.{◌≡◌, ℕ, ◌+◌, ◌≤◌, true, false, List, [], ◌∷◌, ◌++◌, length, drop, Some, None, Result, Ok, Err}
use Rattle.pg_base.specs.declared.faults.Code.{Code}
use Rattle.pg_base.specs.declared.faults.Code.TheVariants.{S1, S15}
use Rattle.pg_base.specs.declared.faults.Limit.TheVariants.{Depth}
use Rattle.pg_base.specs.declared.faults.Fault.{Fault}
use Rattle.pg_base.specs.declared.limits.TheConstants.{MOST_LEVELS}
use Rattle.sql_lex.specs.declared.tokens.Token.{Token}
use Rattle.sql_grammar.specs.declared.table.Item.{Item}
use Rattle.sql_grammar.specs.declared.walk.Taken.{Taken}
use Rattle.sql_grammar.specs.declared.walk.Taken.TheVariants.{On, Ended, Stops}
use Rattle.sql_grammar.specs.Terminals.{Terminal}
use Rattle.sql_grammar.specs.work.Terminals.{class_of}
use Rattle.sql_grammar.specs.Reading.{terminal_of}
use Rattle.sql_grammar.specs.work.Machine.{depth_of, step_of, run_of, may_end, Fits, is_closed}
use Rattle.sql_grammar.specs.Faults.{terminals, limit_of, AreWithinLimits, fault_at}

-- the terminal was awaited, and is within its limits
pub record TakenOn (t : Terminal) (old new : List Item) : Type 0 where
  pub step : step_of MOST_LEVELS (class_of t) old ≡ Some new
  pub within : limit_of t ≡ None
  pub fits : Fits 16 new
  pub shallow : depth_of new ≤ MOST_LEVELS

-- the terminal is not awaited, however deep expressions may be
abbrev pub IsUnawaited : List Item → Terminal → Type 0
IsUnawaited s t = (limit : ℕ) → step_of limit (class_of t) s ≡ None

-- why the walk stops at a terminal
abbrev pub StopsBy : Code → Terminal → List Item → Type 0
StopsBy S1 t s = IsUnawaited s t × (may_end s ≡ false)
StopsBy (S15 Depth) t s = (step_of MOST_LEVELS (class_of t) s ≡ None) × ((n : List Item) × (step_of (MOST_LEVELS + 1) (class_of t) s ≡ Some n))
StopsBy (S15 limit) t s = ((n : List Item) × (step_of MOST_LEVELS (class_of t) s ≡ Some n)) × (limit_of t ≡ Some limit)
StopsBy _ t s = ⊥

-- what became of a terminal
abbrev pub IsTaken : Taken → Terminal → List Item → List Item → Type 0
IsTaken On t old new = TakenOn t old new
IsTaken Ended t old new = IsUnawaited old t × (may_end old ≡ true)
IsTaken (Stops code) t old new = StopsBy code t old

-- the walk cannot go on with these tokens
abbrev pub IsUnawaitedAt : List ℕ → List Item → List Token → Type 0
IsUnawaitedAt text s [] = Unit {0}
IsUnawaitedAt text s (token ∷ _) = IsUnawaited s (terminal_of text token)

-- the walk took the tokens up to `end`, and nothing more is awaited
pub record WalkEnds (text : List ℕ) (tokens : List Token) (first : ℕ) (start : List Item) (end : ℕ) : Type 0 where
  pub before : List Token
  pub after : List Token
  pub stack : List Item
  pub split : drop first tokens ≡ before ++ after
  pub place : end ≡ first + length before
  pub run : run_of MOST_LEVELS (terminals text before) start ≡ Some stack
  pub ends : may_end stack ≡ true
  pub within : AreWithinLimits (terminals text before)
  pub stuck : IsUnawaitedAt text stack after
  pub inner : is_closed true false start ≡ true → 1 ≤ length after
  pub outer : is_closed false true start ≡ true → after ≡ []

-- the walk stopped at a token
pub record WalkStops (text : List ℕ) (tokens : List Token) (first : ℕ) (start : List Item) (fault : Fault) : Type 0 where
  pub before : List Token
  pub token : Token
  pub after : List Token
  pub stack : List Item
  pub split : drop first tokens ≡ before ++ token ∷ after
  pub run : run_of MOST_LEVELS (terminals text before) start ≡ Some stack
  pub within : AreWithinLimits (terminals text before)
  pub stops : StopsBy fault.code (terminal_of text token) stack
  pub place : fault ≡ fault_at fault.code token

-- how far the walk went
abbrev pub IsWalk : List ℕ → List Token → ℕ → List Item → Result ℕ Fault → Type 0
IsWalk text tokens first start (Ok end) = WalkEnds text tokens first start end
IsWalk text tokens first start (Err fault) = WalkStops text tokens first start fault
