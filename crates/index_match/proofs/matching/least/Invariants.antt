use Rattle.std.proofs.Common.{◌≡◌, ℕ, ◌-◌, false, find}
use Rattle.std.specs.List.{range_with_len}
use Rattle.pg_expr.specs.work.AtomSets.{contains}
use Rattle.index_match.specs.work.Slots as slots
use Rattle.index_match.proofs.matching.least.Given as goal

abbrev pub invariant-loop-n : goal.invariant-loop-n
invariant-loop-n l = record {
  none : (j : ℕ) → contains l.one j ≡ false;
  rest : find (contains l.set) (range_with_len l.n (l.end - l.n)) ≡ slots.least (contains l.set) l.end;
}
