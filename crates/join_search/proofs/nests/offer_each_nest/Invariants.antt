use Rattle.std.proofs.Common.{map, take}
use Rattle.std.specs.Prelude.{All}
use Rattle.join_search.specs.work.Sufficing.{IsServed}
use Rattle.plan_tree.specs.Plans.{nest}
use Rattle.plan_tree.specs.work.Views.{path}
use Rattle.join_search.specs.work.Offers.{TakesJoins}
use Rattle.join_search.specs.work.Tables.{paths_at}
use Rattle.join_search.proofs.nests.offer_each_nest.Given as goal

-- the nested loops of the outer paths so far were offered
abbrev pub invariant-loop-outer : goal.invariant-loop-outer
invariant-loop-outer l = record {
  takes : TakesJoins l.j.cat.now l.j.q.now (paths_at l.j.table.now) l.j.set (map path l.fn.front) (map path l.front);
  served : All (λ o. IsServed l.j.cat.now l.j.q.now l.j.asked (map path l.front) (nest (path o).tree (path l.inner).tree)) (take l.outer-index l.outers);
}
