use Rattle.std.proofs.Common.{sym, ◌∙◌, arith}
use Rattle.pg_base.specs.Sets.{has}
use Rattle.heap.proofs.RankLemmas.{rank-zero, rank-in, rank-out}
use Rattle.planned_table.proofs.printing.size.Goals.{then-has, else-has}
use Rattle.planned_table.proofs.printing.size.Goals as goal

pub loop-k-init : goal.loop-k-init
loop-k-init c = record { counted = sym (rank-zero (has c.args.set.0)); few = omega arith }

pub loop-k-preserved : goal.loop-k-preserved
loop-k-preserved c = elim c.if-has.branch [
  | then-has w ↦ record { counted = omega (arith, w.members-is, c.loop-k.invariant.counted, rank-in (has c.args.set.0) c.loop-k.k (sym c.has.ensures ∙ w.if-has.true)); few = omega (arith, w.members-is, c.loop-k.invariant.few) }
  | else-has w ↦ record { counted = omega (arith, w.members-is, c.loop-k.invariant.counted, rank-out (has c.args.set.0) c.loop-k.k (sym c.has.ensures ∙ w.if-has.false)); few = omega (arith, w.members-is, c.loop-k.invariant.few) }
]
