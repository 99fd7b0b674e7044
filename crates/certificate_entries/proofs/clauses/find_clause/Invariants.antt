use Rattle.std.proofs.Common.{◌≡◌, ◌<◌, ℕ, Some, slice_get}
use Rattle.certificate_text.specs.explain_Texts.{conjunct_by}
use Rattle.certificate_entries.proofs.clauses.find_clause.Given as goal

abbrev pub invariant-loop-n : goal.invariant-loop-n
invariant-loop-n l = (i : ℕ) → i < l.n → conjunct_by (slice_get l.q.classes.clauses i) ≡ Some l.number → ⊥
