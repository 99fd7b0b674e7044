-- Answers kept while a question is worked out.
use Rattle.std.specs.Prelude.{◌↔◌, All, IfSome, IsTrue, List, Option}
use Rattle.pg_value.specs.declared.columns.Column.{Column}
use Rattle.pg_expr.specs.work.View.{cond}
use Rattle.predicate_proof.specs.declared.notes.Note.{Note}
use Rattle.predicate_proof.specs.Derivation.{Implies}

-- a note says what the rules derive
abbrev pub IsRight : List Column → Note → Type 0
IsRight columns n = IsTrue n.holds ↔ Implies columns (cond n.clause.now) (cond n.goal.now)

-- each note says what the rules derive
abbrev pub AreRight : List Column → List (Option Note) → Type 0
AreRight columns = All (λ slot. IfSome slot (IsRight columns))
