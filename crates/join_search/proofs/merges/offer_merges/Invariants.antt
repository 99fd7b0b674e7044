use Rattle.std.proofs.Common.{map, take}
use Rattle.std.specs.Prelude.{All}
use Rattle.plan_tree.specs.work.Views.{path}
use Rattle.join_search.specs.work.Offers.{AreMergesServed, TakesJoins}
use Rattle.join_search.specs.work.Tables.{none, paths_at}
use Rattle.join_search.proofs.merges.offer_merges.Given as goal

-- the merges by the lists so far were offered
abbrev pub invariant-loop-by : goal.invariant-loop-by
invariant-loop-by l = record {
  takes : TakesJoins l.j.cat.now l.j.q.now (paths_at l.j.table.now) l.j.set (map path l.fn.front) (map path l.front);
  served : All (λ by'. AreMergesServed l.j.cat.now l.j.q.now l.j.asked (map path l.front) (paths_at l.j.table.now l.j.outer none) (paths_at l.j.table.now l.j.inner none) by') (take l.by-index l.by-items);
}
