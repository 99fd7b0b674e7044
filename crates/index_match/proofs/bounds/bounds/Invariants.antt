use Rattle.std.proofs.Common.{◌≡◌, ℕ, ◌||◌, drop}
use Rattle.pg_expr.specs.work.AtomSets.{contains}
use Rattle.index_match.specs.work.Slots.{bound_at, slots_of}
use Rattle.index_match.proofs.bounds.bounds.Given as goal

abbrev pub invariant-loop-key : goal.invariant-loop-key
invariant-loop-key l = (j : ℕ) → contains l.set j || bound_at l.def.method l.r.0 (drop l.key-index l.def.keys.items) (slots_of l.list) j ≡ bound_at l.def.method l.r.0 l.def.keys.items (slots_of l.list) j
