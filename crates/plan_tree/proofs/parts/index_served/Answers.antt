use Rattle.std.proofs.Common.{◌∙◌, ap, sym}
use Rattle.pg_base.specs.Sets.{has}
use Rattle.cost_rules.specs.work.Costs.{capped}
use Rattle.eq_classes.specs.Clauses.{ClassTable}
use Rattle.path_cost.specs.Costs.{index_part}
use Rattle.index_match.specs.Bounds.{index_bounds}
use Rattle.index_match.specs.Conditions.{index_conditions}
use Rattle.index_match.specs.Numbered.{has_number}
use Rattle.plan_tree.proofs.ScanLemmas.{all-found}
use Rattle.plan_tree.proofs.parts.index_served.Goals as goal

pub returns : goal.returns
returns c =
    let contents = c.args.cat.now in
    let t = c.classes_of-classes.result.now in
    let i = c.args.i in
    let r = c.args.r.0 in
    let p = has c.args.p.0 in
    let found = c.conditions_among-found in
    let all = all-found contents t i r p found.result.bounds found.result.tests c.bounds_and_tests-all.result found.ensures.bounds found.ensures.tests c.bounds_and_tests-all.ensures in
    record {
      conditions = λ n. all n ∙ ap (λ (x : ClassTable). has_number (index_conditions contents x i r p) n) c.classes_of-classes.ensures;
      part = c.index_part-part.ensures.rule
          ∙ (λ z. capped (index_part contents c.range_of.result.now t i r p (λ n. found.ensures.bounds n z) (λ n. all n z)))
          ∙ (λ z. capped (index_part contents (c.range_of.ensures z) (c.classes_of-classes.ensures z) i r p
          (has_number (index_bounds contents (c.classes_of-classes.ensures z) i r p)) (has_number (index_conditions contents (c.classes_of-classes.ensures z) i r p))));
    }
