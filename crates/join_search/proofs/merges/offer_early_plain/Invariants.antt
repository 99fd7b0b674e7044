use Rattle.std.proofs.Common.{◌≡◌, ◌<◌, map, take, true}
use Rattle.std.specs.Prelude.{All}
use Rattle.pathkeys.specs.Keys.{covers}
use Rattle.plan_tree.specs.work.Views.{path}
use Rattle.join_search.specs.work.Merges.{AreOutersServed}
use Rattle.join_search.specs.work.Offers.{TakesJoins}
use Rattle.join_search.specs.work.Tables.{none, paths_at}
use Rattle.join_search.proofs.merges.offer_early_plain.Given as goal

-- the merges with the inner paths so far, where their keys begin with the list and they start before the cost, were offered
abbrev pub invariant-loop-inner : goal.invariant-loop-inner
invariant-loop-inner l = record {
  takes : TakesJoins l.j.cat.now l.j.q.now (paths_at l.j.table.now) l.j.set (map path l.fn.front) (map path l.front);
  served : All (λ i. covers (path i).keys l.by ≡ true → (path i).startup < l.startup → AreOutersServed l.j.cat.now l.j.q.now l.j.asked (map path l.front) (paths_at l.j.table.now l.j.outer none) l.by (path i).tree) (take l.inner-index l.inners);
}
