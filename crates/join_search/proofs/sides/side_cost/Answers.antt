use Rattle.std.proofs.Common.{◌∙◌, ap}
use Rattle.cost_rules.specs.Costs.{sort_cost}
use Rattle.cost_rules.specs.work.Costs.{capped_pair}
use Rattle.cost_rules.specs.declared.pair.Pair.{Pair}
use Rattle.plan_tree.specs.work.Paths.{kept_cost}
use Rattle.join_search.specs.work.Merges.{side_path}
use Rattle.join_search.proofs.MergeLemmas.{side-plain, side-sorted}
use Rattle.join_search.proofs.sides.side_cost.Goals as goal

pub returns-then-s-clause-kept : goal.returns-then-s-clause-kept
returns-then-s-clause-kept c =
    λ by'. c.kept_of.ensures.kept ∙ ap (kept_cost c.args.q.now.window) (c.sort.ensures.rule ∙ ap (λ (p : Pair). capped_pair (sort_cost p c.args.rows)) c.cost_of-cost.ensures.kept)
    ∙ side-sorted c.args.cat.now c.args.q.now c.args.set (side_path c.args.s) by' c.args.rows c.args.s.sorted c.requires.at c.requires.rows c.if-s.true

pub returns-else-s-clause-kept : goal.returns-else-s-clause-kept
returns-else-s-clause-kept c = λ by'. c.cost_of-cost.ensures.kept ∙ side-plain c.args.cat.now c.args.q.now (side_path c.args.s) by' c.args.s.sorted c.if-s.false
