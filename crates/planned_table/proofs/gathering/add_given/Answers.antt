use Rattle.std.proofs.Common.{◌≡◌, ◌+◌, arith, refl}
use Rattle.pg_base.specs.declared.rel_set.RelSet.{RelSet}
use Rattle.join_search.specs.work.Tables.{paths_at}
use Rattle.planned_table.specs.work.Gathering.{shown}
use Rattle.planned_table.proofs.GatherLemmas.{given-all, given-more, given-none}
use Rattle.planned_table.proofs.gathering.add_given.Goals as goal

pub loop-bits-init : goal.loop-bits-init
loop-bits-init c = record {
  some = omega arith;
  paths = given-none (paths_at c.args.table.now) c.args.all.0 c.args.r.0 (shown c.args.listed.now.items) c.requires.before;
}

pub loop-bits-preserved : goal.loop-bits-preserved
loop-bits-preserved c =
    let p : RelSet = record { 0 = c.loop-bits.bits } in
    let some = c.loop-bits.invariant.some in
    record {
      some = omega (arith, some);
      paths = given-more (paths_at c.args.table.now) c.args.all.0 c.args.r.0 c.loop-bits.bits c.args.s p (shown c.loop-bits.listed.items) (shown c.add_front.new.listed.items) c.requires.places c.add_front.ensures.unrelated
          c.requires.set refl some c.loop-bits.invariant.paths c.in_ok-add_front.ensures.added;
    }

pub returns : goal.returns
returns c =
    let past : c.loop-bits.bits ≡ c.args.all.0 + 1 = omega (arith, c.loop-bits.auto.bits-end) in
    given-all (paths_at c.args.table.now) c.args.all.0 c.args.r.0 c.loop-bits.bits (shown c.loop-bits.listed.items) past c.loop-bits.invariant.paths
