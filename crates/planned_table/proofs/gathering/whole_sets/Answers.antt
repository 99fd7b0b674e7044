use Rattle.std.proofs.Common.{refl}
use Rattle.pg_base.specs.declared.rel_set.RelSet.{RelSet}
use Rattle.join_search.specs.work.Tables.{none, paths_at}
use Rattle.planned_table.specs.work.Gathering.{shown}
use Rattle.planned_table.proofs.GatherLemmas.{whole-more}
use Rattle.planned_table.proofs.gathering.whole_sets.Goals as goal

pub loop-bits-preserved : goal.loop-bits-preserved
loop-bits-preserved c =
    let s : RelSet = record { 0 = c.loop-bits.bits } in
    whole-more (paths_at c.args.table.now) c.loop-bits.bits s none (shown c.loop-bits.listed.items) (shown c.add_front.new.listed.items) c.requires.places c.add_front.ensures.unrelated refl refl
    c.loop-bits.invariant c.in_ok-add_front.ensures.added
