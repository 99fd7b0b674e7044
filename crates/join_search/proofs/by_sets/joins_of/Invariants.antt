use Rattle.std.proofs.Common.{map, take}
use Rattle.std.specs.Prelude.{All}
use Rattle.plan_tree.specs.work.Views.{path}
use Rattle.join_search.specs.work.Joins.{IsJoinPath}
use Rattle.join_search.specs.work.Offers.{AreJoinsServed}
use Rattle.join_search.specs.work.Splits.{IsDivided}
use Rattle.join_search.specs.work.Tables.{none, paths_at}
use Rattle.pg_base.specs.declared.rel_set.RelSet.{RelSet}
use Rattle.join_search.proofs.by_sets.joins_of.Given as goal

-- the joins of the parts so far with the rest were offered
abbrev pub invariant-loop-part : goal.invariant-loop-part
invariant-loop-part l = record {
  joins : All (IsJoinPath l.at.cat.now l.at.q.now (paths_at l.at.table.now) l.at.set none) (map path l.kept);
  served : All (λ (a : RelSet). (b : RelSet) → IsDivided l.at.set a b → AreJoinsServed l.at.cat.now l.at.q.now l.at.asked (paths_at l.at.table.now) (map path l.kept) a b) (take l.part-index l.filled);
}
