use Rattle.std.proofs.Common.{ap, map, sym, subst, arith}
use Rattle.std.specs.Prelude.{All}
use Rattle.std.proofs.lemmas.List.Elements.{All-nil}
use Rattle.plan_tree.specs.work.Views.{path}
use Rattle.join_search.specs.work.Joins.{AreUndominated, IsJoinPath}
use Rattle.join_search.specs.work.Tables.{none, paths_at}
use Rattle.join_search.proofs.FilledLemmas.{bare-served}
use Rattle.join_search.proofs.FrontingLemmas.{outside-is}
use Rattle.join_search.proofs.by_sets.front_over.Goals as goal

pub returns-then-not-may-clause-joins : goal.returns-then-not-may-clause-joins
returns-then-not-may-clause-joins c =
    let P = IsJoinPath c.args.task.now.cat.now c.args.task.now.q.now (paths_at c.args.table.now) c.args.set none in
    subst (All P) (ap (map path) (sym c.new.ensures)) (All-nil P)

pub returns-then-not-may-clause-served : goal.returns-then-not-may-clause-served
returns-then-not-may-clause-served c =
    bare-served c.args.task.now.cat.now c.args.task.now.q.now c.args.task.now.asked (paths_at c.args.table.now) (map path c.new.result) c.args.set c.args.filled.now c.requires.filled (c.in_ok-may.ensures c.if-not-may.true)

pub returns-then-not-may-clause-undominated : goal.returns-then-not-may-clause-undominated
returns-then-not-may-clause-undominated c =
    subst (AreUndominated c.args.task.now.cat.now c.args.task.now.q.now) (ap (map path) (sym c.new.ensures)) (λ i j d lt le. absurd (omega (arith, lt, le)))

pub joins_of-requires-clause-at : goal.joins_of-requires-clause-at
joins_of-requires-clause-at c = record {
  query = c.requires.task.query;
  whole = c.requires.task.whole;
  order = c.requires.task.order;
  placed = c.requires.placed;
  rows = c.set_rows-rows.ensures.rows;
  outside = outside-is c.args.task.now.q.now c.args.set c.all_relations-all.result c.minus-outside.result c.all_relations-all.ensures c.minus-outside.ensures;
}
