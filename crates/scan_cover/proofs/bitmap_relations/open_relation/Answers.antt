use Rattle.std.proofs.Common.{arith}
use Rattle.plan_check.specs.work.Views.{certificate}
use Rattle.pg_base.proofs.NumberLemmas.{each-below as below-next}
use Rattle.scan_cover.specs.work.Trees.{AreBitmapsServed}
use Rattle.scan_cover.proofs.ServedLemmas.{relation-bitmaps}
use Rattle.scan_cover.proofs.bitmap_relations.open_relation.Goals as goal

pub loop-bits-preserved : goal.loop-bits-preserved
loop-bits-preserved c =
    below-next (λ m. AreBitmapsServed c.args.j.now.cat.now c.args.j.now.q.now c.args.rel (record { 0 = m }) (certificate c.args.j.now.t.now)) c.loop-bits.bits c.loop-bits.invariant c.in_default.ensures

pub returns : goal.returns
returns c = relation-bitmaps c.args.j.now.cat.now c.args.j.now.q.now (certificate c.args.j.now.t.now) c.requires.query c.args.all c.requires.all c.args.rel c.loop-bits.bits (omega arith) c.loop-bits.invariant
