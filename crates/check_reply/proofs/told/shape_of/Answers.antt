use Rattle.std.proofs.Common.{subst, sym}
use Rattle.std.specs.Prelude.{IfOk}
use Rattle.std.proofs.lemmas.Result.{IfOk-weaker}
use Rattle.plan_check.specs.work.Views.{certificate}
use Rattle.plan_check.specs.declared.verdict.Plain.{Plain}
use Rattle.certificate_check.specs.plan_laws_WellBoundLemmas.{bound-over}
use Rattle.check_reply.specs.work.Telling.{IsShapeOf}
use Rattle.check_reply.proofs.ShapeLemmas.{merge-within, nest-within}
use Rattle.check_reply.proofs.told.shape_of.Goals as goal

pub bitmap_shape-requires-clause-query : goal.bitmap_shape-requires-clause-query
bitmap_shape-requires-clause-query c = bound-over c.args.cat.now c.args.q.now c.requires.bound

pub nest_shape-requires-clause-within : goal.nest_shape-requires-clause-within
nest_shape-requires-clause-within c =
    let n = nest-within c.args.cat.now c.args.q.now (certificate c.args.t.now) c.args.node.now c.in-Nest.outer c.in-Nest.inner c.in-Nest.is c.requires.built in
    (n.0.within, n.1.within)

pub merge_shape-requires-clause-within : goal.merge_shape-requires-clause-within
merge_shape-requires-clause-within c =
    let n = merge-within c.args.cat.now c.args.q.now (certificate c.args.t.now) c.args.node.now c.in-Merge.keys c.in-Merge.outer c.in-Merge.inner c.in-Merge.is c.requires.built in
    (n.0.within, n.1.within)

pub returns-in-Seq : goal.returns-in-Seq
returns-in-Seq c =
    let cat = c.args.cat.now in
    let q = c.args.q.now in
    let t = certificate c.args.t.now in
    subst (λ (n : Plain). IfOk c.seq_shape.result (IsShapeOf cat q t n)) (sym c.in-Seq.is) (IfOk-weaker c.seq_shape.result _ _ (λ s h. h cat q t) c.seq_shape.ensures)

pub returns-in-Index : goal.returns-in-Index
returns-in-Index c =
    let cat = c.args.cat.now in
    let q = c.args.q.now in
    let t = certificate c.args.t.now in
    subst (λ (n : Plain). IfOk c.index_shape.result (IsShapeOf cat q t n)) (sym c.in-Index.is) (IfOk-weaker c.index_shape.result _ _ (λ s h. h t) c.index_shape.ensures)

pub returns-in-Bitmap : goal.returns-in-Bitmap
returns-in-Bitmap c =
    let cat = c.args.cat.now in
    let q = c.args.q.now in
    let t = certificate c.args.t.now in
    subst (λ (n : Plain). IfOk c.bitmap_shape.result (IsShapeOf cat q t n)) (sym c.in-Bitmap.is) (IfOk-weaker c.bitmap_shape.result _ _ (λ s h. h t) c.bitmap_shape.ensures)

pub returns-in-Nest : goal.returns-in-Nest
returns-in-Nest c =
    let cat = c.args.cat.now in
    let q = c.args.q.now in
    let t = certificate c.args.t.now in
    subst (λ (n : Plain). IfOk c.nest_shape.result (IsShapeOf cat q t n)) (sym c.in-Nest.is) (IfOk-weaker c.nest_shape.result _ _ (λ s h. h cat q c.requires.right) c.nest_shape.ensures)

pub returns-in-Merge : goal.returns-in-Merge
returns-in-Merge c =
    let cat = c.args.cat.now in
    let q = c.args.q.now in
    let t = certificate c.args.t.now in
    subst (λ (n : Plain). IfOk c.merge_shape.result (IsShapeOf cat q t n)) (sym c.in-Merge.is) (IfOk-weaker c.merge_shape.result _ _ (λ s h. h cat q c.requires.right) c.merge_shape.ensures)
