use Rattle.std.proofs.Common.{map, take}
use Rattle.std.specs.Prelude.{All}
use Rattle.plan_tree.specs.work.Views.{path}
use Rattle.join_search.specs.work.Offers.{AreNestsServed, TakesJoins}
use Rattle.join_search.specs.work.Tables.{none, paths_at}
use Rattle.join_search.proofs.nests.offer_nests.Given as goal

-- the nested loops with the inner paths of the parameterisations so far were offered
abbrev pub invariant-loop-p : goal.invariant-loop-p
invariant-loop-p l = record {
  takes : TakesJoins l.j.cat.now l.j.q.now (paths_at l.j.table.now) l.j.set (map path l.fn.front) (map path l.front);
  served : All (λ p. AreNestsServed l.j.cat.now l.j.q.now l.j.asked (map path l.front) (paths_at l.j.table.now l.j.outer none) (paths_at l.j.table.now l.j.inner p)) (take l.p-index l.p-items);
}
