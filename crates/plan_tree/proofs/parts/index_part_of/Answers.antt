use Rattle.std.proofs.Common.{◌∙◌}
use Rattle.pg_base.specs.Sets.{has}
use Rattle.cost_rules.specs.work.Costs.{capped}
use Rattle.path_cost.specs.Costs.{index_part}
use Rattle.index_match.specs.Bounds.{index_bounds}
use Rattle.index_match.specs.Conditions.{index_conditions}
use Rattle.index_match.specs.Numbered.{has_number}
use Rattle.plan_tree.proofs.ScanLemmas.{all-found}
use Rattle.plan_tree.proofs.parts.index_part_of.Goals as goal

pub returns-clause-part : goal.returns-clause-part
returns-clause-part c =
    let contents = c.args.cat.now in
    let t = c.classes_of-classes.result.now in
    let i = c.args.i in
    let r = c.args.r.0 in
    let p = has c.args.p.0 in
    let found = c.conditions-found in
    let all = all-found contents t i r p found.result.bounds found.result.tests c.bounds_and_tests-all.result found.ensures.bounds found.ensures.tests c.bounds_and_tests-all.ensures in
    c.index_part.ensures.rule
    ∙ (λ z. capped (index_part contents c.range_of-range.result.now t i r p (λ n. found.ensures.bounds n z) (λ n. all n z)))
    ∙ (λ z. capped (index_part contents (c.range_of-range.ensures z) (c.classes_of-classes.ensures z) i r p
    (has_number (index_bounds contents (c.classes_of-classes.ensures z) i r p)) (has_number (index_conditions contents (c.classes_of-classes.ensures z) i r p))))
