use Rattle.std.proofs.Common.{rules, ◌≤◌, ◌∙◌, List, ap, sym, map, length, subst, refl, arith, true≢false}
use Rattle.std.proofs.lemmas.List.{length-map}
use Rattle.std.proofs.lemmas.Result.{on_ok_weaker}
use Rattle.pg_base.specs.Sets.{has}
use Rattle.eq_classes.specs.Clauses.{one}
use Rattle.pg_expr.specs.work.AtomSets.{contains}
use Rattle.cost_rules.specs.work.Costs.{capped_pair}
use Rattle.path_cost.specs.Costs.{bitmap_cost}
use Rattle.plan_tree.specs.Costs.{cost}
use Rattle.plan_tree.specs.work.Fronts.{HasDominating, is_bitmap}
use Rattle.plan_tree.specs.Least.{IsAdmissible}
use Rattle.plan_tree.specs.Plans.{BitTree, bitmap}
use Rattle.plan_tree.specs.Space.{IsPlanOf}
use Rattle.plan_tree.specs.work.Views.{path}
use Rattle.bitmap_scan.specs.work.Chosen.{combined}
use Rattle.bitmap_scan.specs.work.ElementTrees.{HasCheaper, tree_in}
use Rattle.plan_tree.proofs.BoundLemmas.{lawful-rows}
use Rattle.plan_tree.specs.declared.path.Path.{Path as Costed}
use Rattle.bitmap_scan.proofs.OfferLemmas.{cheaper-dominates}
use Rattle.bitmap_scan.proofs.KeptLemmas.{parts-together, used-together}
use Rattle.bitmap_scan.proofs.ScanLemmas.{chosen-scan, cost-cut, named-from, named-to}
use Rattle.bitmap_scan.proofs.offers.offer_chosen.Goals as goal

pub returns-then-has_cheaper-clause-dominated : goal.returns-then-has_cheaper-clause-dominated
returns-then-has_cheaper-clause-dominated c =
    let contents = c.args.cat.now in
    let q = c.args.q.now in
    let chosen = c.args.chosen.now in
    let tree = combined (map (λ k. tree_in k.now) chosen) in
    let parts = parts-together contents q c.args.at.rel c.args.at.param (λ k. k.now) chosen c.parts_together-parts.result c.requires.kept c.parts_together-parts.ensures in
    λ plan admissible. cheaper-dominates contents q (lawful-rows contents q c.lawful.ensures) c.args.at (map path c.args.front.now) c.parts_together-parts.result tree c.requires.paths
    (subst (λ (ps : List Costed). HasCheaper c.args.at c.parts_together-parts.result (map path ps)) c.items.ensures.items (c.has_cheaper.ensures c.if-has_cheaper.true)) parts plan

pub returns-then-not-names_exactly-clause-dominated : goal.returns-then-not-names_exactly-clause-dominated
returns-then-not-names_exactly-clause-dominated c =
    let contents = c.args.cat.now in
    let q = c.args.q.now in
    let chosen = c.args.chosen.now in
    let tree = combined (map (λ k. tree_in k.now) chosen) in
    let used = used-together contents q c.args.at.rel c.args.at.param (λ k. k.now) chosen c.used_by-used.result c.requires.kept c.used_by-used.ensures in
    λ plan admissible. absurd (true≢false (sym (c.names_exactly.ensures.1 (named-to contents q c.args.at.rel c.args.at.param (contains c.used_by-used.result) tree used plan.built.named)) ∙ c.if-not-names_exactly.true))

pub offer_scan-requires-clause-of : goal.offer_scan-requires-clause-of
offer_scan-requires-clause-of c =
    let contents = c.args.cat.now in
    let q = c.args.q.now in
    let chosen = c.args.chosen.now in
    let trees = map (λ k. tree_in k.now) chosen in
    let used = used-together contents q c.args.at.rel c.args.at.param (λ k. k.now) chosen c.used_by-used.result c.requires.kept c.used_by-used.ensures in
    let some : 1 ≤ length chosen = search rules in
    let many = length-map chosen (λ k. tree_in k.now) in
    let named = named-from contents q c.args.at.rel c.args.at.param (contains c.used_by-used.result) (combined trees) used (c.names_exactly.ensures.0 c.if-not-names_exactly.false) in
    subst (λ (b : BitTree). IsPlanOf contents q (one c.args.at.rel.0) (has c.args.at.param.0) (bitmap c.args.at.rel c.args.at.param b)) (sym c.in_ok-bits.ensures)
    (chosen-scan contents q c.args.at.rel c.args.at.param trees c.requires.chosen (omega (arith, some, many)) c.requires.relation named)

pub offer_scan-requires-clause-cost : goal.offer_scan-requires-clause-cost
offer_scan-requires-clause-cost c =
    let contents = c.args.cat.now in
    let q = c.args.q.now in
    let chosen = c.args.chosen.now in
    let tree = combined (map (λ k. tree_in k.now) chosen) in
    let used = used-together contents q c.args.at.rel c.args.at.param (λ k. k.now) chosen c.used_by-used.result c.requires.kept c.used_by-used.ensures in
    let parts = parts-together contents q c.args.at.rel c.args.at.param (λ k. k.now) chosen c.parts_together-parts.result c.requires.kept c.parts_together-parts.ensures in
    c.bitmap-cost.ensures.rule
    ∙ (λ z. capped_pair (bitmap_cost contents (c.range_of.ensures z) (c.classes_of.ensures z) c.args.at.rel.0 (has c.args.at.param.0) (contains c.used_by-used.result) c.parts_together-parts.result))
    ∙ cost-cut contents q c.args.at.rel c.args.at.param (contains c.used_by-used.result) tree c.parts_together-parts.result used parts
    ∙ ap (λ (b : BitTree). capped_pair (cost contents q (bitmap c.args.at.rel c.args.at.param b))) (sym c.in_ok-bits.ensures)

pub returns-clause-kept : goal.returns-clause-kept
returns-clause-kept c = c.offer_scan.ensures.kept is_bitmap refl

pub returns-clause-dominated : goal.returns-clause-dominated
returns-clause-dominated c =
    let contents = c.args.cat.now in
    let q = c.args.q.now in
    let at = λ (b : BitTree). bitmap c.args.at.rel c.args.at.param b in
    on_ok_weaker c.offer_scan.result
    (λ offered plan admissible. subst (λ (b : BitTree). HasDominating contents q (map path c.offer_scan.new.front) (at b)) c.in_ok-bits.ensures
    (offered (subst (λ (b : BitTree). IsAdmissible contents q (at b)) (sym c.in_ok-bits.ensures) admissible))) c.offer_scan.ensures.dominated
