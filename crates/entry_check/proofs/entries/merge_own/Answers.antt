use Rattle.std.proofs.Common.{inl, inr}
use Rattle.plan_tree.specs.Plans.{merge}
use Rattle.plan_check.specs.Certificates.{side_at, sorted_if}
use Rattle.plan_check.specs.Views.{side}
use Rattle.plan_check.specs.work.Views.{certificate, entry}
use Rattle.entry_check.specs.work.Owning.{plans_before}
use Rattle.entry_check.proofs.JudgeLemmas.{has-right, join-none, joined, no-join, side-none, side-some}
use Rattle.entry_check.proofs.OwnLemmas.{if-none-then, if-some}
use Rattle.entry_check.proofs.entries.merge_own.Goals as goal

pub own_merge-requires-clause-outer : goal.own_merge-requires-clause-outer
own_merge-requires-clause-outer c = has-right c.args.cat.now c.args.q.now (plans_before c.args.q.now (certificate c.args.t.now) c.args.n) c.args.m.now.outer.entry (entry c.in-Some.a.now) c.in-Some.ensures.some

pub own_merge-requires-clause-inner : goal.own_merge-requires-clause-inner
own_merge-requires-clause-inner c = has-right c.args.cat.now c.args.q.now (plans_before c.args.q.now (certificate c.args.t.now) c.args.n) c.args.m.now.inner.entry (entry c.in-Some-entry_before.b.now) c.in-Some-entry_before.ensures.some

pub returns-in-Some-entry_before : goal.returns-in-Some-entry_before
returns-in-Some-entry_before c =
    let plans = plans_before c.args.q.now (certificate c.args.t.now) c.args.n in
    let list = c.args.m.now.list.now in
    let x = c.in-Some.ensures.some in
    let y = c.in-Some-entry_before.ensures.some in
    let o = sorted_if c.args.m.now.outer.sort list x.plan in
    let i = sorted_if c.args.m.now.inner.sort list y.plan in
    joined c.args.cat.now c.args.q.now (merge list) (side_at plans list (side c.args.m.now.outer)) (side_at plans list (side c.args.m.now.inner)) o i (entry c.args.e.now) c.own_merge.result
    (side-some plans list (side c.args.m.now.outer) x.plan x.is) (side-some plans list (side c.args.m.now.inner) y.plan y.is)
    (if-some c.own_merge.result _ _ c.own_merge.ensures.some (λ own h. h x.plan y.plan x.right y.right)) (if-none-then c.own_merge.result _ _ c.own_merge.ensures.none (λ h. h x.plan y.plan x.right y.right))

pub returns-in-None-entry_before : goal.returns-in-None-entry_before
returns-in-None-entry_before c =
    let plans = plans_before c.args.q.now (certificate c.args.t.now) c.args.n in
    let list = c.args.m.now.list.now in
    no-join c.args.cat.now c.args.q.now _ (entry c.args.e.now) (join-none (merge list) (side_at plans list (side c.args.m.now.outer)) (side_at plans list (side c.args.m.now.inner)) (inr (side-none plans list (side c.args.m.now.inner) c.in-None-entry_before.ensures.none)))

pub returns-in-None : goal.returns-in-None
returns-in-None c =
    let plans = plans_before c.args.q.now (certificate c.args.t.now) c.args.n in
    let list = c.args.m.now.list.now in
    no-join c.args.cat.now c.args.q.now _ (entry c.args.e.now) (join-none (merge list) (side_at plans list (side c.args.m.now.outer)) (side_at plans list (side c.args.m.now.inner)) (inl (side-none plans list (side c.args.m.now.outer) c.in-None.ensures.none)))
