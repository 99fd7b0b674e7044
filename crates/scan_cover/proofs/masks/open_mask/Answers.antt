use Rattle.std.proofs.Common.{◌∙◌, List, sym, true≢false}
use Rattle.std.specs.List.{AllZip}
use Rattle.pg_base.specs.Sets.{has}
use Rattle.pg_expr.specs.work.AtomSets.{contains}
use Rattle.cost_rules.specs.work.Costs.{capped_pair}
use Rattle.path_cost.specs.Costs.{bitmap_cost}
use Rattle.plan_tree.specs.Plans.{BitTree, bitmap}
use Rattle.plan_tree.proofs.BoundLemmas.{lawful-rows}
use Rattle.plan_check.specs.work.Views.{certificate}
use Rattle.bitmap_scan.specs.work.Chosen.{combined, marked}
use Rattle.bitmap_scan.proofs.ScanLemmas.{named-to}
use Rattle.scan_cover.proofs.ToldLemmas.{if-none-weaker, if-some-weaker}
use Rattle.scan_cover.specs.work.Trees.{IsKept}
use Rattle.scan_cover.proofs.KeptLemmas.{mark-plan, mark-priced, mark-used}
use Rattle.scan_cover.proofs.ServedLemmas.{bitmap-with, none-marked}
use Rattle.scan_cover.proofs.masks.open_mask.Goals as goal

pub returns-then-parts-eq0-clause-none : goal.returns-then-parts-eq0-clause-none
returns-then-parts-eq0-clause-none c =
    none-marked c.args.j.now.cat.now c.args.j.now.q.now c.args.at.rel c.args.at.param (certificate c.args.j.now.t.now) c.args.kept.now c.args.mask (sym c.parts_of-parts.ensures.count ∙ c.if-parts-eq0.true)

pub returns-then-not-names_exactly-clause-none : goal.returns-then-not-names_exactly-clause-none
returns-then-not-names_exactly-clause-none c = λ bs z built admissible.
    let used = mark-used c.args.j.now.cat.now c.args.j.now.q.now c.args.at.rel c.args.at.param c.args.kept.now c.args.mask bs z (contains c.used_by-used.result) c.used_by-used.ensures in
    absurd (true≢false (sym (c.names_exactly.ensures.1 (named-to c.args.j.now.cat.now c.args.j.now.q.now c.args.at.rel c.args.at.param (contains c.used_by-used.result) (combined bs) used built.named)) ∙ c.if-not-names_exactly.true))

pub returns-in-None-clause-none : goal.returns-in-None-clause-none
returns-in-None-clause-none c = λ bs z built admissible.
    let contents = c.args.j.now.cat.now in
    let q = c.args.j.now.q.now in
    let r = c.args.at.rel in
    let p = c.args.at.param in
    let rule = c.bitmap-cost.ensures.rule ∙ (λ i. capped_pair (bitmap_cost contents (c.range_of-range.ensures i) (c.classes_of-classes.ensures i) r.0 (has p.0) (contains c.used_by-used.result) c.parts_of-parts.result.0)) in
    absurd (c.in-None.ensures.none contents (bitmap r p (combined bs))
    (mark-priced contents q r p c.args.kept.now c.args.mask bs z (contains c.used_by-used.result) c.used_by-used.ensures c.kept_of.result c.bitmap-cost.result c.parts_of-parts.result.0 c.kept_of.ensures.kept rule c.parts_of-parts.ensures.part)
    admissible)

pub returns-in-Some-clause-none : goal.returns-in-Some-clause-none
returns-in-Some-clause-none c =
    let contents = c.args.j.now.cat.now in
    let q = c.args.j.now.q.now in
    let r = c.args.at.rel in
    let p = c.args.at.param in
    let ks = c.args.kept.now in
    let rule = c.bitmap-cost.ensures.rule ∙ (λ i. capped_pair (bitmap_cost contents (c.range_of-range.ensures i) (c.classes_of-classes.ensures i) r.0 (has p.0) (contains c.used_by-used.result) c.parts_of-parts.result.0)) in
    let with = λ (bs : List BitTree) (z : AllZip (IsKept contents q r p) (marked c.args.mask ks) bs).
    bitmap-with contents q r p c.one.result c.in-Some.own bs c.one.ensures
    (mark-plan contents q r p ks c.args.mask bs z (contains c.used_by-used.result) c.used_by-used.ensures c.requires.first c.requires.few c.parts_of-parts.result.1 c.if-parts-eq0.false c.parts_of-parts.ensures.count c.requires.relation (c.names_exactly.ensures.0 c.if-not-names_exactly.false))
    (c.in-Some.ensures.some contents (bitmap r p (combined bs)) (lawful-rows contents q c.lawful.ensures)
    (mark-priced contents q r p ks c.args.mask bs z (contains c.used_by-used.result) c.used_by-used.ensures c.kept_of.result c.bitmap-cost.result c.parts_of-parts.result.0 c.kept_of.ensures.kept rule c.parts_of-parts.ensures.part)
    c.rows_given-rows.ensures.rows) in
    if-none-weaker c.open_with.result _ _ (λ h bs z. h contents (bitmap r p (combined bs)) c.requires.right (with bs z)) c.open_with.ensures.none

pub returns-in-Some-clause-some : goal.returns-in-Some-clause-some
returns-in-Some-clause-some c =
    let contents = c.args.j.now.cat.now in
    let q = c.args.j.now.q.now in
    let r = c.args.at.rel in
    let p = c.args.at.param in
    let ks = c.args.kept.now in
    let rule = c.bitmap-cost.ensures.rule ∙ (λ i. capped_pair (bitmap_cost contents (c.range_of-range.ensures i) (c.classes_of-classes.ensures i) r.0 (has p.0) (contains c.used_by-used.result) c.parts_of-parts.result.0)) in
    let with = λ (bs : List BitTree) (z : AllZip (IsKept contents q r p) (marked c.args.mask ks) bs).
    bitmap-with contents q r p c.one.result c.in-Some.own bs c.one.ensures
    (mark-plan contents q r p ks c.args.mask bs z (contains c.used_by-used.result) c.used_by-used.ensures c.requires.first c.requires.few c.parts_of-parts.result.1 c.if-parts-eq0.false c.parts_of-parts.ensures.count c.requires.relation (c.names_exactly.ensures.0 c.if-not-names_exactly.false))
    (c.in-Some.ensures.some contents (bitmap r p (combined bs)) (lawful-rows contents q c.lawful.ensures)
    (mark-priced contents q r p ks c.args.mask bs z (contains c.used_by-used.result) c.used_by-used.ensures c.kept_of.result c.bitmap-cost.result c.parts_of-parts.result.0 c.kept_of.ensures.kept rule c.parts_of-parts.ensures.part)
    c.rows_given-rows.ensures.rows) in
    if-some-weaker c.open_with.result _ _ (λ x h bs node z stands. h contents (bitmap r p (combined bs)) node c.requires.right (with bs z) stands) c.open_with.ensures.some
