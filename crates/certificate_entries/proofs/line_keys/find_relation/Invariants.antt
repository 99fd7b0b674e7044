use Rattle.std.proofs.Common.{◌≡◌, ◌<◌}
use Rattle.pg_base.specs.declared.numbers.RelNo.{RelNo}
use Rattle.catalog.specs.Range.{relation_at}
use Rattle.certificate_entries.proofs.line_keys.find_relation.Given as goal

abbrev pub invariant-loop-n : goal.invariant-loop-n
invariant-loop-n l = (r : RelNo) → r.0 < l.n → (relation_at l.q.range r).1 ≡ l.alias → ⊥
