use Rattle.std.proofs.Common.{◌∙◌, ap, refl, sym}
use Rattle.std.proofs.lemmas.Bool.{false≢true}
use Rattle.pg_base.specs.Sets.{has}
use Rattle.plan_tree.specs.Costs.{cost}
use Rattle.plan_tree.specs.work.Paths.{kept_cost}
use Rattle.plan_tree.specs.Plans.{bitmap}
use Rattle.plan_tree.specs.work.Views.{bits}
use Rattle.plan_tree.proofs.BoundLemmas.{lawful-rows}
use Rattle.plan_tree.proofs.CostableLemmas.{tree-made}
use Rattle.plan_check.specs.work.Views.{entry}
use Rattle.entry_check.proofs.ScanLemmas.{kept-cut, no-keys, param-given, scan-judged, some-keys}
use Rattle.entry_check.proofs.scans.own_bitmap.Goals as goal

pub bitmap_scan_cost-cost-requires-clause-tree : goal.bitmap_scan_cost-cost-requires-clause-tree
bitmap_scan_cost-cost-requires-clause-tree c =
    let h = c.is_bitmap_scan.ensures.valid.0 c.if-not-is_bitmap_scan.false in
    tree-made c.args.cat.now c.args.q.now c.args.r.0 (has c.args.e.now.param.0) (bits c.args.tree.now) h.tree

pub returns-then-not-is_alone : goal.returns-then-not-is_alone
returns-then-not-is_alone c = λ h. false≢true (sym c.if-not-is_alone.true ∙ c.is_alone.ensures.1 h.plan.set_is)

pub returns-then-items-ne0 : goal.returns-then-items-ne0
returns-then-items-ne0 c = λ h. some-keys c.items.result.now c.args.e.now.keys c.items.ensures.list c.if-items-ne0.true h.keys

pub returns-then-not-is_bitmap_scan : goal.returns-then-not-is_bitmap_scan
returns-then-not-is_bitmap_scan c = λ h. false≢true (sym c.if-not-is_bitmap_scan.true ∙ c.is_bitmap_scan.ensures.valid.1 h.plan.built)

pub returns : goal.returns
returns c =
    let contents = c.args.cat.now in
    let q = c.args.q.now in
    let r = c.args.r in
    let p = bitmap r c.args.e.now.param (bits c.args.tree.now) in
    scan-judged contents q (entry c.args.e.now) p r (c.is_bitmap_scan.ensures.valid.0 c.if-not-is_bitmap_scan.false) refl refl c.kept_of.result c.rows_given.result c.numbers_of.result c.numbers_of.ensures.some c.numbers_of.ensures.none
    (c.is_alone.ensures.0 c.if-not-is_alone.false)
    (param-given r c.args.e.now.param)
    (no-keys c.items.result.now c.args.e.now.keys c.items.ensures.list c.if-items-ne0.false)
    (lawful-rows contents q c.lawful.ensures)
    (c.kept_of.ensures.kept ∙ ap (kept_cost q.window) c.bitmap_scan_cost-cost.ensures.rule ∙ kept-cut q.window (cost contents q p))
    c.rows_given.ensures.rows
