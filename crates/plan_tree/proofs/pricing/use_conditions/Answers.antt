use Rattle.std.proofs.Common.{◌∙◌, ◌||◌, ◌&&◌, ap, nat_lt, length}
use Rattle.pg_base.specs.Sets.{has}
use Rattle.pg_expr.specs.work.AtomSets.{contains}
use Rattle.eq_classes.specs.Clauses.{ClassTable}
use Rattle.index_match.specs.Conditions.{index_conditions}
use Rattle.index_match.specs.Numbered.{has_number}
use Rattle.plan_tree.proofs.PricingLemmas.{used-below}
use Rattle.plan_tree.proofs.ScanLemmas.{all-found}
use Rattle.plan_tree.proofs.pricing.use_conditions.Goals as goal

pub returns : goal.returns
returns c = λ k.
    let contents = c.args.cat.now in
    let t = c.classes_of-classes.result.now in
    let i = c.args.i in
    let r = c.args.r.0 in
    let p = has c.args.p.0 in
    let found = c.conditions-found in
    let all = all-found contents t i r p found.result.bounds found.result.tests c.bounds_and_tests-all.result found.ensures.bounds found.ensures.tests c.bounds_and_tests-all.ensures k in
    c.loop-n.invariant k
    ∙ used-below k c.loop-n.n c.count-n-end.result (length t.clauses) (contains c.args.used.now k) (contains c.bounds_and_tests-all.result k) (has_number (index_conditions contents t i r p) k) c.loop-n-test.false c.loop-n.auto.n-end c.count-n-end.ensures.count all
    ∙ ap (λ (x : ClassTable). contains c.args.used.now k || (nat_lt k (length x.clauses) && has_number (index_conditions contents x i r p) k)) c.classes_of-classes.ensures
