use Rattle.std.proofs.Common.{filter}
use Rattle.eq_classes.specs.Clauses.{is_first}
use Rattle.eq_classes.proofs.SearchLemmas.{step_filter}
use Rattle.eq_classes.proofs.class.EqClass.firsts_among.Goals as goal

pub loop-x-preserved : goal.loop-x-preserved
loop-x-preserved c =
    let f = is_first c.args.self.now in
    step_filter f c.args.members.now c.loop-x.x-index _ c.loop-x.firsts.items c.note_first.new.firsts.items (filter f c.args.members.now) c.loop-x-test.true (c.in_ok-note_first.ensures {u = tt}) c.loop-x.invariant
