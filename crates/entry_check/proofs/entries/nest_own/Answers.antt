use Rattle.std.proofs.Common.{inl, inr}
use Rattle.plan_tree.specs.Plans.{nest}
use Rattle.plan_check.specs.Certificates.{plan_at}
use Rattle.plan_check.specs.work.Views.{certificate, entry}
use Rattle.entry_check.specs.work.Owning.{plans_before}
use Rattle.entry_check.proofs.JudgeLemmas.{has-right, join-none, joined, no-join}
use Rattle.entry_check.proofs.OwnLemmas.{if-none-then, if-some}
use Rattle.entry_check.proofs.entries.nest_own.Goals as goal

pub own_nest-requires-clause-outer : goal.own_nest-requires-clause-outer
own_nest-requires-clause-outer c = has-right c.args.cat.now c.args.q.now (plans_before c.args.q.now (certificate c.args.t.now) c.args.n) c.args.sides.0 (entry c.in-Some.a.now) c.in-Some.ensures.some

pub own_nest-requires-clause-inner : goal.own_nest-requires-clause-inner
own_nest-requires-clause-inner c = has-right c.args.cat.now c.args.q.now (plans_before c.args.q.now (certificate c.args.t.now) c.args.n) c.args.sides.1 (entry c.in-Some-entry_before.b.now) c.in-Some-entry_before.ensures.some

pub returns-in-Some-entry_before : goal.returns-in-Some-entry_before
returns-in-Some-entry_before c =
    let plans = plans_before c.args.q.now (certificate c.args.t.now) c.args.n in
    let x = c.in-Some.ensures.some in
    let y = c.in-Some-entry_before.ensures.some in
    joined c.args.cat.now c.args.q.now nest (plan_at plans c.args.sides.0) (plan_at plans c.args.sides.1) x.plan y.plan (entry c.args.e.now) c.own_nest.result x.is y.is
    (if-some c.own_nest.result _ _ c.own_nest.ensures.some (λ own h. h x.plan y.plan x.right y.right)) (if-none-then c.own_nest.result _ _ c.own_nest.ensures.none (λ h. h x.plan y.plan x.right y.right))

pub returns-in-None-entry_before : goal.returns-in-None-entry_before
returns-in-None-entry_before c =
    let plans = plans_before c.args.q.now (certificate c.args.t.now) c.args.n in
    no-join c.args.cat.now c.args.q.now _ (entry c.args.e.now) (join-none nest (plan_at plans c.args.sides.0) (plan_at plans c.args.sides.1) (inr c.in-None-entry_before.ensures.none))

pub returns-in-None : goal.returns-in-None
returns-in-None c =
    let plans = plans_before c.args.q.now (certificate c.args.t.now) c.args.n in
    no-join c.args.cat.now c.args.q.now _ (entry c.args.e.now) (join-none nest (plan_at plans c.args.sides.0) (plan_at plans c.args.sides.1) (inl c.in-None.ensures.none))
