use Rattle.std.proofs.lemmas.List.Elements.{All-more}
use Rattle.join_search.specs.work.Past.{HasNoJoins}
use Rattle.join_search.specs.work.Tables.{paths_at}
use Rattle.join_search.proofs.ItemLemmas.{all-taken}
use Rattle.join_search.proofs.by_sets.may_join_any.Goals as goal

pub loop-part-preserved : goal.loop-part-preserved
loop-part-preserved c =
    let t = c.args.task.now in
    All-more (HasNoJoins t.cat.now t.q.now t.asked (paths_at c.args.table.now) c.args.set) c.args.parts.now c.loop-part.part-index _ c.loop-part-test.true c.loop-part.invariant (c.in_ok-may_join.ensures c.if-branch.false)

pub returns : goal.returns
returns c = λ never.
    let t = c.args.task.now in
    all-taken (HasNoJoins t.cat.now t.q.now t.asked (paths_at c.args.table.now) c.args.set) c.args.parts.now c.loop-part.part-index c.loop-part-test.false c.loop-part.invariant
