use Rattle.std.proofs.Common.{◌∙◌, ap}
use Rattle.pg_base.specs.Sets.{has}
use Rattle.eq_classes.specs.Clauses.{ClassTable}
use Rattle.index_match.specs.Conditions.{index_conditions}
use Rattle.index_match.specs.Numbered.{has_number}
use Rattle.plan_tree.proofs.ScanLemmas.{all-found}
use Rattle.plan_tree.proofs.make.conditions_found.Goals as goal

pub returns : goal.returns
returns c =
    let contents = c.args.cat.now in
    let i = c.args.i in
    let r = c.args.r.0 in
    let p = has c.args.p.0 in
    let found = c.conditions-found in
    λ n. all-found contents c.classes_of-classes.result.now i r p found.result.bounds found.result.tests c.bounds_and_tests.result found.ensures.bounds found.ensures.tests c.bounds_and_tests.ensures n
    ∙ ap (λ (t : ClassTable). has_number (index_conditions contents t i r p) n) c.classes_of-classes.ensures
