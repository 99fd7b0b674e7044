use Rattle.std.proofs.Common.{◌≡◌, ◌∙◌, ap, cond, subst, sym}
use Rattle.plan_check.specs.Certificates.{by_merge}
use Rattle.plan_check.specs.Views.{side}
use Rattle.plan_check.specs.work.Views.{certificate, entry}
use Rattle.pathkeys.specs.work.Finding.{class_numbers}
use Rattle.pathkeys.specs.Keys.{Keys}
use Rattle.plan_check.specs.Plains.{keys_in}
use Rattle.check_reply.specs.work.Telling.{Tells}
use Rattle.check_reply.proofs.ShapeLemmas.{merge-tells}
use Rattle.check_reply.proofs.shapes.merge_shape.Goals as goal

pub returns : goal.returns
returns c = λ c' q right p stands built.
    let t = certificate c.args.t.now in
    let a = entry c.entry_at-a.result.now in
    let list = keys_in c.args.places.now in
    let same : c.in_ok-list.list ≡ list = c.in_ok-list.ensures.list ∙ ap class_numbers c.deref.ensures.value ∙ c.in_ok-classes.ensures in
    subst (λ (l : Keys). Tells c' q t c.union.result (record { 0 = 0 }) (by_merge l (side c.args.outer) (side c.args.inner)) c.in_ok-keys.keys p) (sym same)
    (merge-tells c' q t right a (entry c.entry_at-b.result.now) c.union.result c.in_ok-keys.keys c.union.ensures list (side c.args.outer) (side c.args.inner) p c.requires.some.0 c.requires.some.1
    c.entry_at-a.ensures c.entry_at-b.ensures (c.in_ok-keys.ensures ∙ ap (λ (l : Keys). cond c.args.outer.sort l a.keys) same) stands)
