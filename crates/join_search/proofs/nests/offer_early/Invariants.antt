use Rattle.std.proofs.Common.{◌<◌, map, take}
use Rattle.std.specs.Prelude.{All}
use Rattle.plan_tree.specs.work.Views.{path}
use Rattle.join_search.specs.work.Offers.{AreEachServed, TakesJoins}
use Rattle.join_search.specs.work.Tables.{none, paths_at}
use Rattle.join_search.proofs.nests.offer_early.Given as goal

-- the nested loops with the inner paths so far, where they start before the cost, were offered
abbrev pub invariant-loop-inner : goal.invariant-loop-inner
invariant-loop-inner l = record {
  takes : TakesJoins l.j.cat.now l.j.q.now (paths_at l.j.table.now) l.j.set (map path l.fn.front) (map path l.front);
  served : All (λ i. (path i).startup < l.startup → AreEachServed l.j.cat.now l.j.q.now l.j.asked (map path l.front) (paths_at l.j.table.now l.j.outer none) (path i).tree) (take l.inner-index l.inners);
}
