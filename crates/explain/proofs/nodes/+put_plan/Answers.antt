use Rattle.std.proofs.Common.{◌∙◌, ap, ap₂, sym}
use Rattle.std.proofs.lemmas.Result.{on_ok_weaker}
use Rattle.plan_tree.specs.Plans.{merge, nest}
use Rattle.plan_tree.specs.work.Views.{bits, plan}
use Rattle.plan_tree.specs.declared.plan.Plan.{Plan}
use Rattle.explain.proofs.ShownLemmas.{bitmap-lines, has-line, merge-lines, nest-lines, tree-indexes}
use Rattle.explain.proofs.nodes.+put_plan.Goals as goal

pub put_line-requires-clause-line : goal.put_line-requires-clause-line
put_line-requires-clause-line t c = has-line c.args.cat.now c.args.q.now (plan c.args.p.now) c.requires.lines

pub put_bits-requires : goal.put_bits-requires
put_bits-requires t c =
    let line = rw c.in-Bitmap.is at c.requires.lines in
    record { tree = tree-indexes c.args.cat.now c.args.q.now c.in-Bitmap.rel.0 (bits c.in-Bitmap.bits) line.costable.1 }

pub returns-in-Bitmap : goal.returns-in-Bitmap
returns-in-Bitmap t c =
    on_ok_weaker c.put_bits.result
    (λ more. bitmap-lines c.args.cat.now c.args.q.now c.args.lead.now c.in_ok-below.below (plan c.args.p.now) c.in-Bitmap.rel c.in-Bitmap.param (bits c.in-Bitmap.bits) c.args.text.now.items
    c.put_line.new.text.items c.put_bits.new.text.items (ap plan c.in-Bitmap.is) c.in_ok-below.ensures c.in_ok-put_line.ensures more)
    c.put_bits.ensures

pub returns-in-Nest : goal.returns-in-Nest
returns-in-Nest t c =
    on_ok_weaker c.put_plan-in-Nest-2.result
    (λ last. nest-lines c.args.cat.now c.args.q.now c.args.lead.now c.in_ok-below.below (plan c.args.p.now) (plan c.deref-in-Nest.result.now) (plan c.deref-in-Nest-2.result.now) c.args.text.now.items
    c.put_line.new.text.items c.put_plan-in-Nest.new.text.items c.put_plan-in-Nest-2.new.text.items c.in_ok-below.ensures c.in_ok-put_line.ensures c.in_ok-put_plan-in-Nest.ensures last
    (ap plan c.in-Nest.is ∙ ap₂ (λ (x y : Plan). nest (plan x) (plan y)) (sym c.deref-in-Nest.ensures) (sym c.deref-in-Nest-2.ensures)))
    c.put_plan-in-Nest-2.ensures

pub returns : goal.returns
returns t c =
    on_ok_weaker c.put_plan-in-Merge-2.result
    (λ last. merge-lines c.args.cat.now c.args.q.now c.args.lead.now c.in_ok-below.below (plan c.args.p.now) (plan c.deref-in-Merge.result.now) (plan c.deref-in-Merge-2.result.now) c.args.text.now.items
    c.put_line.new.text.items c.put_plan-in-Merge.new.text.items c.put_plan-in-Merge-2.new.text.items c.in_ok-below.ensures c.in_ok-put_line.ensures c.in_ok-put_plan-in-Merge.ensures last c.in-Merge.keys
    (ap plan c.in-Merge.is ∙ ap₂ (λ (x y : Plan). merge c.in-Merge.keys (plan x) (plan y)) (sym c.deref-in-Merge.ensures) (sym c.deref-in-Merge-2.ensures)))
    c.put_plan-in-Merge-2.ensures
