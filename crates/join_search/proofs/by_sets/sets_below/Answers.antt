use Rattle.join_search.specs.work.Tables.{paths_at}
use Rattle.join_search.proofs.FilledLemmas.{filled-first}
use Rattle.join_search.proofs.SearchLemmas.{done-first}
use Rattle.join_search.proofs.by_sets.sets_below.Goals as goal

pub loop-n-init : goal.loop-n-init
loop-n-init c =
    let t = c.args.task.now in
    record { done = done-first t.cat.now t.q.now t.asked c.args.base c.requires.base; filled = filled-first (paths_at c.args.base) c.new-filled.result.items }

pub loop-n-preserved : goal.loop-n-preserved
loop-n-preserved c = record { done = c.in_ok-table.ensures.done c.args.base c.loop-n.invariant.done; filled = c.in_ok-table.ensures.filled }

pub returns : goal.returns
returns c = (c.loop-n.n, c.loop-n-test.false, c.loop-n.invariant.done)
