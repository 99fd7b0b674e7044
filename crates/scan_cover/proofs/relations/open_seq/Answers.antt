use Rattle.std.proofs.Common.{◌∙◌, ap, refl, sym}
use Rattle.plan_tree.specs.work.Paths.{kept_cost}
use Rattle.plan_tree.specs.Plans.{seq}
use Rattle.plan_tree.proofs.BoundLemmas.{lawful-rows}
use Rattle.plan_check.specs.declared.verdict.Plain.TheVariants as plain
use Rattle.join_cover.specs.entry_check_CostLemmas.{whole-rows}
use Rattle.join_cover.specs.entry_check_PartLemmas.{set-estimate}
use Rattle.join_cover.specs.entry_check_ScanLemmas.{kept-cut}
use Rattle.scan_cover.proofs.ToldLemmas.{if-none-weaker, if-some-weaker, match-both, seq-with}
use Rattle.scan_cover.proofs.relations.open_seq.Goals as goal

pub returns-in-Some : goal.returns-in-Some
returns-in-Some c =
    let contents = c.args.j.now.cat.now in
    let q = c.args.j.now.q.now in
    let r = c.args.r in
    let numbers = c.in-Some.ensures.some contents (seq r) (lawful-rows contents q c.lawful.ensures)
    (c.kept_of-cost.ensures.kept ∙ ap (kept_cost q.window) c.seq_scan_cost.ensures.rule ∙ kept-cut q.window _)
    (set-estimate contents q c.one-set.result (seq r) c.set_rows.result (λ k. sym (c.one-set.ensures k)) (whole-rows contents q (seq r) (λ k. refl)) c.set_rows.ensures.rows) in
    let with = seq-with contents q r c.one-set.result c.in-Some.own c.requires.relation c.one-set.ensures numbers in
    match-both c.open_with.result _ _ (if-none-weaker c.open_with.result _ _ (λ h. h contents (seq r) c.requires.right with) c.open_with.ensures.none)
    (if-some-weaker c.open_with.result _ _ (λ x h. h contents (seq r) (plain.Seq r) c.requires.right with refl) c.open_with.ensures.some)

pub returns-in-None : goal.returns-in-None
returns-in-None c = λ built admissible.
    absurd (c.in-None.ensures.none c.args.j.now.cat.now (seq c.args.r) (c.kept_of-cost.ensures.kept ∙ ap (kept_cost c.args.j.now.q.now.window) c.seq_scan_cost.ensures.rule ∙ kept-cut c.args.j.now.q.now.window _) admissible)
