use Rattle.std.proofs.Common.{◌∙◌, ap, length, nat_lt}
use Rattle.pg_base.specs.Sets.{has}
use Rattle.eq_classes.specs.Clauses.{ClassTable}
use Rattle.index_match.specs.Conditions.{index_conditions}
use Rattle.index_match.proofs.PartLemmas.{conditions_local}
use Rattle.plan_tree.proofs.ElementLemmas.{condition-found}
use Rattle.plan_tree.proofs.ScanLemmas.{all-found}
use Rattle.plan_tree.proofs.elements.has_condition.Goals as goal

pub returns : goal.returns
returns c =
    let contents = c.args.cat.now in
    let t = c.classes_of-classes.result.now in
    let i = c.args.i in
    let r = c.args.r.0 in
    let p = has c.args.p.0 in
    let found = c.conditions-found in
    condition-found c.has_some.result (index_conditions contents t i r p) (length t.clauses) c.bounds_and_tests.result c.has_some.ensures
    (all-found contents t i r p found.result.bounds found.result.tests c.bounds_and_tests.result found.ensures.bounds found.ensures.tests c.bounds_and_tests.ensures)
    (λ n local. (conditions_local contents t i r p n local).0)
    ∙ ap (λ (x : ClassTable). nat_lt 0 (length (index_conditions contents x i r p))) c.classes_of-classes.ensures
