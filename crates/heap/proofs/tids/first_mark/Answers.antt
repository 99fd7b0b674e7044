use Rattle.std.proofs.Common.{◌/◌, inl, inr, arith}
use Rattle.std.proofs.lemmas.Bool.{cases_lt}
use Rattle.heap.proofs.MarkLemmas.{past-marked}
use Rattle.heap.proofs.tids.first_mark.Goals as goal

pub returns-clause-none : goal.returns-clause-none
returns-clause-none c = λ n le. elim (cases_lt (n / 64) c.loop-place.place) [
  | inl below ↦ c.loop-place.invariant.none n le below
  | inr least ↦ past-marked c.args.words.now n (omega arith)
]
