-- Working words beside those of `Runs`.
use Rattle.std.specs.Prelude.{ℕ, ◌≡◌, ◌⊎◌, List}
use Rattle.std.specs.declared.option.Option.{Option}
use Rattle.pg_base.specs.Causes.{Rose}
use Rattle.pg_base.specs.declared.faults.Fault.{Fault}
use Rattle.reply_text.specs.Lines.{fault_line}
use Rattle.reply_text.specs.Tells.{IsFieldOf}
use Rattle.sql_query.specs.Worlds.{World, empty_world}
use Rattle.statements.specs.declared.end.End.{End}
use Rattle.statements.specs.declared.end.End.TheVariants as ends
use Rattle.statements.specs.Scripts.{Worked, world_after}
use Rattle.pgplan.specs.Statuses.{IsTold, IsWorkStatus, line_of}
use Rattle.pgplan.specs.Runs.{IsAnswered, EndsInFault, IsCutOff, IsPaused}

-- why the statements of a text were not all worked, and what is left: the world is that of the statements before a fault
abbrev pub Ends : End → List ℕ → World → (held held' : Option (List ℕ)) → Type 0
Ends (ends.Fault fault) text w held held' =
    (statements : List Worked) × (w ≡ world_after empty_world statements) × IsFieldOf w.contents fault × EndsInFault text held held' statements fault
Ends ends.Write text w held held' = IsCutOff text held held'
Ends ends.Memory text w held held' = IsPaused text held held' ⊎ IsCutOff text held held'

-- what a run over a text that was read did, by its status
pub record IsRunOver (status : ℕ) (text : List ℕ) (held held' errs errs' : Option (List ℕ)) (before now : ℕ) : Type 0 where
  pub among : IsWorkStatus status
  pub done : status ≡ 0 → IsAnswered text held held'
  pub refused : status ≡ 3 → (statements : List Worked) × (fault : Fault) × EndsInFault text held held' statements fault
      × IsTold errs errs' before now (fault_line (world_after empty_world statements).contents text fault)
  pub cut : status ≡ 4 → IsCutOff text held held'
  pub paused : status ≡ 5 → IsPaused text held held' ⊎ IsCutOff text held held'
  pub line : (status ≡ 3 → ⊥) → IsTold errs errs' before now (line_of status)

-- status 4 has its cause in out's faults, and nothing else raises them
pub record HasStatusCause (status before now : ℕ) : Type 0 where
  pub write : status ≡ 4 → Rose before now
  pub quiet : (status ≡ 4 → ⊥) → now ≡ before
