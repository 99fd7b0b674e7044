use Rattle.std.proofs.Common.{ap, map}
use Rattle.std.proofs.lemmas.List.Elements.{All-contains}
use Rattle.cost_rules.specs.declared.pair.Pair.{Pair}
use Rattle.plan_tree.specs.work.Views.{path}
use Rattle.plan_tree.proofs.FrontLemmas.{contains-mapped}
use Rattle.join_search.specs.work.Joins.{IsPathAt}
use Rattle.join_search.specs.work.Tables.{none}
use Rattle.join_search.proofs.MergeLemmas.{best-either, best-none, paths-below}
use Rattle.join_search.proofs.sides.best_side.Goals as goal

pub cheapest_by-requires : goal.cheapest_by-requires
cheapest_by-requires c = record { below = paths-below c.args.cat.now c.args.q.now c.args.set c.args.paths.now c.requires.paths }

pub returns-in-Some-clause-some : goal.returns-in-Some-clause-some
returns-in-Some-clause-some c =
    let p = c.in_ok-cheapest.ensures in
    best-either c.args.cat.now c.args.q.now c.args.by.now c.args.set c.args.paths.now c.in_ok-cheapest.field-0.now c.in-Some.plain.now c.cheaper_side.result.path.now c.cheaper_side.result.sorted c.side_cost-cost.result.total
    c.requires.paths p.is_there p.least c.in-Some.ensures.some (ap (λ (n : Pair). n.total) (c.side_cost-cost.ensures.kept c.args.by.now)) c.cheaper_side.ensures.plain c.cheaper_side.ensures.sorted

pub returns-in-None-clause-some : goal.returns-in-None-clause-some
returns-in-None-clause-some c =
    let p = c.in_ok-cheapest.ensures in
    best-none c.args.cat.now c.args.q.now c.args.by.now c.args.set c.args.paths.now c.in_ok-cheapest.field-0.now c.requires.paths p.is_there p.least c.in-None.ensures.none

pub side_cost-cost-requires-clause-at : goal.side_cost-cost-requires-clause-at
side_cost-cost-requires-clause-at c =
    let p = c.in_ok-cheapest.field-0.now in
    All-contains (IsPathAt c.args.cat.now c.args.q.now c.args.set none) (map path c.args.paths.now) (path p) c.requires.paths (contains-mapped path c.args.paths.now p c.in_ok-cheapest.ensures.is_there)
