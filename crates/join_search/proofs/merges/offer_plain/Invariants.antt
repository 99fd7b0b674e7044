use Rattle.std.proofs.Common.{◌≡◌, map, take, true}
use Rattle.std.specs.Prelude.{All}
use Rattle.pathkeys.specs.Keys.{covers}
use Rattle.join_search.specs.work.Sufficing.{IsServed}
use Rattle.plan_tree.specs.Plans.{merge}
use Rattle.plan_tree.specs.work.Views.{path}
use Rattle.join_search.specs.work.Merges.{side_plan}
use Rattle.join_search.specs.work.Offers.{TakesJoins}
use Rattle.join_search.specs.work.Tables.{paths_at}
use Rattle.join_search.proofs.merges.offer_plain.Given as goal

-- the merges of the outer paths so far, where their keys begin with the list, were offered
abbrev pub invariant-loop-outer : goal.invariant-loop-outer
invariant-loop-outer l = record {
  takes : TakesJoins l.j.cat.now l.j.q.now (paths_at l.j.table.now) l.j.set (map path l.fn.front) (map path l.front);
  served : All (λ o. covers (path o).keys l.by ≡ true → IsServed l.j.cat.now l.j.q.now l.j.asked (map path l.front) (merge l.by (path o).tree (side_plan l.by l.inner))) (take l.outer-index l.outers);
}
