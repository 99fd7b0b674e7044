use Rattle.std.proofs.Common.{map, subst}
use Rattle.std.specs.Prelude.{List}
use Rattle.std.proofs.lemmas.List.Elements.{All-contains}
use Rattle.std.proofs.lemmas.Result.{on_ok_weaker}
use Rattle.plan_tree.specs.work.Paths.{Path}
use Rattle.plan_tree.specs.work.Views.{path}
use Rattle.plan_tree.proofs.BoundLemmas.{lawful-rows}
use Rattle.join_search.specs.work.Joins.{IsPathAt}
use Rattle.join_search.specs.work.Merges.{IsBestSide, IsSideOf, side_path, side_plan}
use Rattle.join_search.specs.work.Tables.{none, paths_at}
use Rattle.join_search.proofs.ItemLemmas.{lent-at, none-lent}
use Rattle.join_search.proofs.MergeLemmas.{merges-none, merges-served, outers-later}
use Rattle.join_search.proofs.OfferLemmas.{takes-none, takes-then}
use Rattle.join_search.proofs.merges.offer_merges_by.Goals as goal

pub best_side-requires-clause-paths : goal.best_side-requires-clause-paths
best_side-requires-clause-paths c = lent-at c.args.j.now.cat.now c.args.j.now.q.now (paths_at c.args.j.now.table.now) c.args.j.now.inner none c.args.inners.now c.requires.over.placed c.requires.inners

pub side_cost-cost-requires-clause-at : goal.side_cost-cost-requires-clause-at
side_cost-cost-requires-clause-at c =
    All-contains (IsPathAt c.args.j.now.cat.now c.args.j.now.q.now c.args.j.now.inner none) (map path c.args.inners.now) (side_path c.in-Some.best)
    (lent-at c.args.j.now.cat.now c.args.j.now.q.now (paths_at c.args.j.now.table.now) c.args.j.now.inner none c.args.inners.now c.requires.over.placed c.requires.inners) c.in-Some.ensures.some.side.is_there

pub offer_side-requires-clause-inner : goal.offer_side-requires-clause-inner
offer_side-requires-clause-inner c =
    subst (λ (ps : List Path). IsSideOf c.args.by.now ps (side_path c.in-Some.best) c.in-Some.best.sorted) c.requires.inners c.in-Some.ensures.some.side

pub returns-in_ok-offer_side-in-Some-clause-takes : goal.returns-in_ok-offer_side-in-Some-clause-takes
returns-in_ok-offer_side-in-Some-clause-takes c =
    takes-then c.args.j.now.cat.now c.args.j.now.q.now (paths_at c.args.j.now.table.now) c.args.j.now.set (map path c.args.front.now) (map path c.offer_side.new.front) (map path c.offer_early_sides.new.front) c.offer_side.ensures.takes c.offer_early_sides.ensures.takes

pub returns-in_ok-offer_side-in-Some-clause-served : goal.returns-in_ok-offer_side-in-Some-clause-served
returns-in_ok-offer_side-in-Some-clause-served c =
    let contents = c.args.j.now.cat.now in
    let q = c.args.j.now.q.now in
    let by' = c.args.by.now in
    let j = c.args.j.now in
    let fronts = paths_at c.args.j.now.table.now in
    let s = c.in-Some.best in
    let middle = map path c.offer_side.new.front in
    let after = map path c.offer_early_sides.new.front in
    let best = subst (λ (ps : List Path). IsBestSide contents q by' ps (side_path s) s.sorted) c.requires.inners c.in-Some.ensures.some in
    on_ok_weaker c.offer_early_sides.result
    (merges-served contents q c.args.j.now.asked (lawful-rows contents q c.lawful.ensures) after (fronts j.outer none) (fronts j.inner none) by' j.inner (side_path s) s.sorted c.side_cost-cost.result (c.requires.over.placed.paths j.inner none) best (c.side_cost-cost.ensures.kept by')
    (outers-later contents q c.args.j.now.asked middle after (fronts j.outer none) by' (side_plan by' s) c.offer_early_sides.ensures.takes.still c.in_ok-offer_side-in-Some.ensures.served))
    c.offer_early_sides.ensures.served

pub returns-in-None-clause-takes : goal.returns-in-None-clause-takes
returns-in-None-clause-takes c = takes-none c.args.j.now.cat.now c.args.j.now.q.now (paths_at c.args.j.now.table.now) c.args.j.now.set (map path c.args.front.now) c.requires.joins

pub returns-in-None-clause-served : goal.returns-in-None-clause-served
returns-in-None-clause-served c =
    let fronts = paths_at c.args.j.now.table.now in
    merges-none c.args.j.now.cat.now c.args.j.now.q.now c.args.j.now.asked (map path c.args.front.now) (fronts c.args.j.now.outer none) (fronts c.args.j.now.inner none) c.args.by.now (none-lent c.args.inners.now (fronts c.args.j.now.inner none) c.requires.inners c.in-None.ensures.none)
