use Rattle.std.proofs.Common.{set, get_or, ap, ◌∙◌, arith}
use Rattle.std.proofs.lemmas.List.Edits.{map_over_more}
use Rattle.std.proofs.lemmas.List.{get_or_default}
use Rattle.hash_index.specs.work.Groups.{below}
use Rattle.hash_index.proofs.chains.cut_each.Goals as goal

pub loop-slot-preserved : goal.loop-slot-preserved
loop-slot-preserved c =
    let x = get_or c.loop-slot.groups c.loop-slot.slot c.index-groups-slot.result in
    ap (set c.loop-slot.groups c.loop-slot.slot) c.cut.ensures
    ∙ map_over_more (below c.args.rows) c.args.groups.now c.loop-slot.groups c.loop-slot.slot x c.loop-slot-test.true c.loop-slot.invariant (get_or_default c.loop-slot.groups c.loop-slot.slot c.index-groups-slot.result x (omega (arith, c.loop-slot-test.true)))
