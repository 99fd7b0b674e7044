-- Working words beside those of `Summaries`.
use Rattle.std.specs.Prelude.{ℕ, ◌≡◌, List, Option, Some, None}
use Rattle.reply_text.specs.Tells.{IsFieldOf}
use Rattle.statements.specs.reply_measuring_Measured.{Measured}
use Rattle.sql_query.specs.Worlds.{World, empty_world}
use Rattle.statements.specs.declared.end.End.{End}
use Rattle.statements.specs.declared.end.End.TheVariants as ends
use Rattle.pgplan.specs.Runs.{ReachesFault}
use Rattle.statements.specs.Scripts.{world_after}
use Rattle.pgplan.specs.Statuses.{IsTold, IsWorkStatus, line_of}
use Rattle.pgplan.specs.Summaries.{IsSummedUp, IsSummedInPart, TellsFaultAlone}

-- a statement that was worked counts as a query where it asks one
abbrev pub number_in : Option Measured → ℕ
number_in None = 0
number_in (Some m) = 1

-- the rows that the answer to its query has, 0 where it asks none
abbrev pub rows_told : Option Measured → ℕ
rows_told None = 0
rows_told (Some m) = m.rows

-- the least price of a plan of its query, 0 where it asks none
abbrev pub cost_in : Option Measured → ℕ
cost_in None = 0
cost_in (Some m) = m.cost

-- why the statements of a text were not all tallied, and what is left: a fault is reached, in the world that the statements
-- before it leave, or memory ran out
abbrev pub EndsTally : End → List ℕ → World → Type 0
EndsTally (ends.Fault fault) text w = (reached : ReachesFault text) × (reached.fault ≡ fault) × (w ≡ world_after empty_world reached.statements) × IsFieldOf w.contents fault
EndsTally ends.Write text w = ⊥
EndsTally ends.Memory text w = Unit {0}

-- why a text was not summed up: its statements were not all tallied, or memory ran out, and out is as before; or out failed
abbrev pub EndsUnsummed : End → List ℕ → World → (held held' : Option (List ℕ)) → Type 0
EndsUnsummed (ends.Fault fault) text w held held' = EndsTally (ends.Fault fault) text w × (held' ≡ held)
EndsUnsummed ends.Write text w held held' = IsSummedInPart text held held'
EndsUnsummed ends.Memory text w held held' = held' ≡ held

-- what a run that sums up a text did, by its status
pub record IsSumOver (status : ℕ) (text : List ℕ) (held held' errs errs' : Option (List ℕ)) (before now : ℕ) : Type 0 where
  pub among : IsWorkStatus status
  pub done : status ≡ 0 → IsSummedUp text held held'
  pub refused : status ≡ 3 → TellsFaultAlone text held held' errs errs' before now
  pub cut : status ≡ 4 → IsSummedInPart text held held'
  pub unwritten : status ≡ 5 → held' ≡ held
  pub line : (status ≡ 3 → ⊥) → IsTold errs errs' before now (line_of status)
