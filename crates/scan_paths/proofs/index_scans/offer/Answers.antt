use Rattle.std.proofs.Common.{◌∙◌, ap, map, subst, sym}
use Rattle.std.proofs.lemmas.Result.{on_ok_weaker}
use Rattle.pg_base.specs.Sets.{has}
use Rattle.cost_rules.specs.work.Costs.{capped_pair}
use Rattle.eq_classes.specs.Clauses.{one}
use Rattle.plan_tree.specs.Costs.{cost}
use Rattle.plan_tree.specs.work.Fronts.{HasDominating, is_no_bitmap}
use Rattle.plan_tree.specs.Least.{IsAdmissible}
use Rattle.plan_tree.specs.Plans.{Plan}
use Rattle.plan_tree.specs.Space.{IsPlanOf}
use Rattle.plan_tree.specs.work.Views.{path}
use Rattle.scan_paths.proofs.SpaceLemmas.{built-of, cost-by, no-bitmap}
use Rattle.scan_paths.proofs.index_scans.offer.Goals as goal

pub offer_scan-requires-clause-of : goal.offer_scan-requires-clause-of
offer_scan-requires-clause-of c =
    let s = c.args.s in
    subst (IsPlanOf c.args.cat.now c.args.q.now (one s.rel.0) (has s.param.0)) (sym c.plan_of.ensures.tree)
    (built-of c.args.cat.now c.args.q.now s.rel s.index s.param s.only c.args.backward c.requires.built)

pub offer_scan-requires-clause-cost : goal.offer_scan-requires-clause-cost
offer_scan-requires-clause-cost c =
    let s = c.args.s in
    c.index_scan_cost-cost.ensures.rule ∙ cost-by c.args.cat.now c.args.q.now s.rel s.index c.args.backward s.param s.only
    ∙ ap (λ (t : Plan). capped_pair (cost c.args.cat.now c.args.q.now t)) (sym c.plan_of.ensures.tree)

pub returns-clause-takes : goal.returns-clause-takes
returns-clause-takes c =
    let s = c.args.s in
    let passes = ap is_no_bitmap c.plan_of.ensures.tree ∙ no-bitmap c.args.cat.now c.args.q.now s.rel s.index c.args.backward s.param s.only in
    record { paths = c.offer_scan.ensures.paths; kept = c.offer_scan.ensures.kept is_no_bitmap passes; still = c.offer_scan.ensures.still }

pub returns-clause-served : goal.returns-clause-served
returns-clause-served c =
    let contents = c.args.cat.now in
    let q = c.args.q.now in
    let tree = c.plan_of.ensures.tree in
    on_ok_weaker c.offer_scan.result
    (λ dominated built admissible. subst (HasDominating contents q (map path c.offer_scan.new.front)) tree (dominated (subst (IsAdmissible contents q) (sym tree) admissible)))
    c.offer_scan.ensures.dominated
