use Rattle.std.proofs.Common.{subst}
use Rattle.std.specs.Prelude.{All}
use Rattle.plan_tree.proofs.BoundLemmas.{lawful-rows}
use Rattle.join_search.specs.work.Merges.{IsNoCheaper}
use Rattle.join_search.specs.work.Tables.{none, paths_at}
use Rattle.join_search.proofs.PastLemmas.{merges-past}
use Rattle.join_search.proofs.merges.are_merges_past.Goals as goal

pub returns : goal.returns
returns c = λ is front by'.
    let j = c.args.j.now in
    let contents = j.cat.now in
    let q = j.q.now in
    let fronts = paths_at j.table.now in
    let over = c.requires.over in
    merges-past contents q j.asked j.whole over.whole (lawful-rows contents q c.lawful.ensures) j.outer j.inner (fronts j.outer none) (fronts j.inner none) c.least_of-outer.result c.least_of-inner.result
    (over.placed.paths j.outer none) (over.placed.paths j.inner none)
    (subst (All (IsNoCheaper c.least_of-outer.result)) over.outers c.least_of-outer.ensures) (subst (All (IsNoCheaper c.least_of-inner.result)) over.inners c.least_of-inner.ensures)
    (c.are_past.ensures is) front by'
