use Rattle.std.proofs.Common.{◌∙◌, ap, arith, length}
use Rattle.planner.proofs.TableLemmas.{base-more}
use Rattle.planner.proofs.base.base_table.Goals as goal

pub loop-r-preserved : goal.loop-r-preserved
loop-r-preserved c =
    base-more c.args.cat.now c.args.q.now c.loop-r.table c.add_relation.new.table c.loop-r.r c.loop-r.invariant c.in_ok-add_relation.ensures.base c.in_ok-add_relation.ensures.scans c.add_relation.ensures.others

pub returns-clause-scans : goal.returns-clause-scans
returns-clause-scans c = λ r lt.
    let same = ap length (c.items-r-end.ensures ∙ c.range_of.ensures) in
    c.loop-r.invariant.scans r (omega (arith, lt, same, c.loop-r.auto.r-end))
