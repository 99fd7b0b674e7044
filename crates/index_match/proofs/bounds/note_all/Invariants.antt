use Rattle.std.proofs.Common.{◌≡◌, ℕ, None, ◌&&◌, ◌||◌, nat_lt, slice_index_or}
use Rattle.pg_expr.specs.work.AtomSets.{contains}
use Rattle.index_match.specs.work.Slots as slots
use Rattle.index_match.specs.work.Slots.{slots_of}
use Rattle.index_match.proofs.bounds.note_all.Given as goal

abbrev pub invariant-loop-n : goal.invariant-loop-n
invariant-loop-n l = (j : ℕ) → contains l.set j ≡ contains l.fn.set j || (nat_lt j l.n && slots.is_on_key l.m l.r.0 l.key (slice_index_or (slots_of l.list) j None))
