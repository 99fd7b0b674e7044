use Rattle.std.proofs.Common.{◌∙◌, ap, refl, sym}
use Rattle.std.proofs.lemmas.Bool.{false≢true}
use Rattle.pg_base.specs.Sets.{has}
use Rattle.pg_base.proofs.SetLaws.{has-zero, none-zero}
use Rattle.plan_tree.specs.work.Paths.{kept_cost}
use Rattle.plan_tree.specs.Plans.{seq}
use Rattle.plan_tree.proofs.BoundLemmas.{lawful-rows}
use Rattle.plan_check.specs.work.Views.{entry}
use Rattle.entry_check.proofs.CostLemmas.{whole-rows}
use Rattle.entry_check.proofs.PartLemmas.{set-estimate}
use Rattle.entry_check.proofs.ScanLemmas.{kept-cut, no-keys, scan-judged, some-keys}
use Rattle.entry_check.proofs.scans.own_seq.Goals as goal

pub returns-then-not-is_alone : goal.returns-then-not-is_alone
returns-then-not-is_alone c = λ h. false≢true (sym c.if-not-is_alone.true ∙ c.is_alone.ensures.1 h.plan.set_is)

pub returns-then-e-ne0 : goal.returns-then-e-ne0
returns-then-e-ne0 c = λ h. c.if-e-ne0.true (none-zero c.args.e.now.param.0 (λ k. sym (h.plan.param_is k)))

pub returns-then-items-ne0 : goal.returns-then-items-ne0
returns-then-items-ne0 c = λ h. some-keys c.items.result.now c.args.e.now.keys c.items.ensures.list c.if-items-ne0.true h.keys

pub returns : goal.returns
returns c =
    let contents = c.args.cat.now in
    let q = c.args.q.now in
    let r = c.args.r in
    let p = seq r in
    let e = entry c.args.e.now in
    scan-judged contents q e p r c.requires.relation refl refl c.kept_of-cost.result c.set_rows.result c.numbers_of.result c.numbers_of.ensures.some c.numbers_of.ensures.none
    (c.is_alone.ensures.0 c.if-not-is_alone.false)
    (λ k. sym (ap (λ n. has n k) c.if-e-ne0.false ∙ has-zero k))
    (no-keys c.items.result.now c.args.e.now.keys c.items.ensures.list c.if-items-ne0.false)
    (lawful-rows contents q c.lawful.ensures)
    (c.kept_of-cost.ensures.kept ∙ ap (kept_cost q.window) c.seq_scan_cost.ensures.rule ∙ kept-cut q.window _)
    (set-estimate contents q c.one.result p c.set_rows.result (λ k. sym (c.one.ensures k)) (whole-rows contents q p (λ k. refl)) c.set_rows.ensures.rows)
