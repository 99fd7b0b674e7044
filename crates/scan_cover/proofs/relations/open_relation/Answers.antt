use Rattle.std.proofs.Common.{arith}
use Rattle.pg_base.specs.declared.numbers.IndexNo.{IndexNo}
use Rattle.plan_check.specs.work.Views.{certificate}
use Rattle.scan_cover.specs.work.Scanning.{IsIndexServed}
use Rattle.scan_cover.proofs.WalkLemmas.{relation-served}
use Rattle.pg_base.proofs.NumberLemmas.{each-below as below-next}
use Rattle.scan_cover.proofs.relations.open_relation.Goals as goal

pub loop-bits-preserved : goal.loop-bits-preserved
loop-bits-preserved c =
    below-next (λ m. (i : IndexNo) → IsIndexServed c.args.j.now.cat.now c.args.j.now.q.now (certificate c.args.j.now.t.now) c.args.r (record { 0 = m }) i) c.loop-bits.bits c.loop-bits.invariant c.in_default-open_given.ensures

pub returns : goal.returns
returns c =
    relation-served c.args.j.now.cat.now c.args.j.now.q.now (certificate c.args.j.now.t.now) c.requires.query c.args.all c.requires.all c.args.r c.loop-bits.bits (omega arith) c.in_default.ensures c.loop-bits.invariant
