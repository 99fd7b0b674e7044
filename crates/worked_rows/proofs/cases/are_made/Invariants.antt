use Rattle.store.specs.work.Kept.{IsStoreOf}
use Rattle.worked_rows.proofs.cases.are_made.Given as goal

abbrev pub invariant-loop-text : goal.invariant-loop-text
invariant-loop-text g l = IsStoreOf l.cat l.store

abbrev pub invariant-loop-rows : goal.invariant-loop-rows
invariant-loop-rows g l = IsStoreOf l.cat l.store
