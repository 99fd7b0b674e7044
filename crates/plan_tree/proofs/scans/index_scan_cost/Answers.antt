use Rattle.std.proofs.Common.{◌∙◌}
use Rattle.pg_base.specs.Sets.{has}
use Rattle.cost_rules.specs.work.Costs.{capped_pair}
use Rattle.path_cost.specs.Costs.{index_cost}
use Rattle.index_match.specs.Bounds.{index_bounds}
use Rattle.index_match.specs.Conditions.{index_conditions}
use Rattle.index_match.specs.Numbered.{has_number}
use Rattle.plan_tree.proofs.ScanLemmas.{all-found}
use Rattle.plan_tree.proofs.scans.index_scan_cost.Goals as goal

pub returns-clause-rule : goal.returns-clause-rule
returns-clause-rule c =
    let contents = c.args.cat.now in
    let t = c.classes_of-classes.result.now in
    let i = c.args.i in
    let r = c.args.r.0 in
    let p = has c.args.param.0 in
    let found = c.conditions-found in
    let all = all-found contents t i r p found.result.bounds found.result.tests c.bounds_and_tests-all.result found.ensures.bounds found.ensures.tests c.bounds_and_tests-all.ensures in
    c.index.ensures.rule
    ∙ (λ z. capped_pair (index_cost contents c.range_of-range.result.now t i r p (λ n. found.ensures.bounds n z) (λ n. all n z) c.args.only))
    ∙ (λ z. capped_pair (index_cost contents (c.range_of-range.ensures z) (c.classes_of-classes.ensures z) i r p
    (has_number (index_bounds contents (c.classes_of-classes.ensures z) i r p)) (has_number (index_conditions contents (c.classes_of-classes.ensures z) i r p)) c.args.only))
