use Rattle.std.proofs.Common.{arith, refl}
use Rattle.pg_base.specs.declared.rel_set.RelSet.{RelSet}
use Rattle.planner.proofs.TableLemmas.{relation-all, relation-more}
use Rattle.planner.proofs.base.add_each.Goals as goal

pub loop-bits-preserved : goal.loop-bits-preserved
loop-bits-preserved c =
    let p : RelSet = record { 0 = c.loop-bits.bits } in
    relation-more c.args.cat.now c.args.q.now c.args.table.now c.loop-bits.table c.add_paths.new.table c.args.at.rel.0 c.args.at.set p c.loop-bits.bits c.loop-bits.invariant c.requires.set refl
    c.in_ok-add_paths.ensures.base c.in_ok-add_paths.ensures.dominated c.add_paths.ensures.others

pub returns-clause-scans : goal.returns-clause-scans
returns-clause-scans c =
    relation-all c.args.cat.now c.args.q.now c.args.table.now c.loop-bits.table c.args.at.rel c.args.at.set c.args.all c.loop-bits.bits c.requires.query c.requires.set c.requires.all (omega arith) c.loop-bits.invariant
