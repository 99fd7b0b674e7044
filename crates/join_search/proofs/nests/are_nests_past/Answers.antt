use Rattle.std.proofs.Common.{subst}
use Rattle.std.specs.Prelude.{All}
use Rattle.join_search.specs.work.Merges.{IsNoCheaper}
use Rattle.join_search.specs.work.Tables.{none, paths_at}
use Rattle.join_search.proofs.PastLemmas.{nests-past}
use Rattle.join_search.proofs.nests.are_nests_past.Goals as goal

pub returns : goal.returns
returns c = λ is front.
    let j = c.args.j.now in
    let fronts = paths_at j.table.now in
    let over = c.requires.over in
    nests-past j.cat.now j.q.now j.asked j.whole over.whole j.outer j.inner c.args.p (fronts j.outer none) (fronts j.inner c.args.p) j.outer_rows c.least_of-outer.result c.least_of-inner.result c.repeated-each.result
    (over.placed.paths j.outer none) (over.placed.paths j.inner c.args.p)
    (subst (All (IsNoCheaper c.least_of-outer.result)) over.outers c.least_of-outer.ensures) (subst (All (IsNoCheaper c.least_of-inner.result)) c.requires.inners c.least_of-inner.ensures)
    over.split.outer_rows c.repeated-each.ensures.startup c.repeated-each.ensures.total (c.are_past.ensures is) front
