use Rattle.std.proofs.Common.{◌∙◌, sym}
use Rattle.std.proofs.lemmas.Bool.{false≢true}
use Rattle.plan_tree.specs.Plans.{merge}
use Rattle.plan_check.specs.Certificates.{sorted_if}
use Rattle.plan_check.specs.work.Views.{entry}
use Rattle.entry_check.proofs.OwnLemmas.{if-none-then, if-some, merge-none, merge-some, no-list, list-at}
use Rattle.entry_check.proofs.joins.own_merge.Goals as goal

pub merge_of-requires-clause-list : goal.merge_of-requires-clause-list
merge_of-requires-clause-list c = list-at c.args.cat.now c.args.q.now c.args.a.now.set c.args.b.now.set c.args.m.now.list.now _ (sym c.items.ensures.list) ((c.is_merge_list.ensures c.args.cat.now c.args.q.now (sym c.classes_of.ensures)).0 c.if-not-is_merge_list.false)

pub returns-then-not-is_merge_list-clause-none : goal.returns-then-not-is_merge_list-clause-none
returns-then-not-is_merge_list-clause-none c = λ o i ra rb.
    no-list c.args.cat.now c.args.q.now c.args.m.now.list.now (entry c.args.e.now) (entry c.args.a.now) (entry c.args.b.now) c.args.m.now.outer.sort c.args.m.now.inner.sort o i ra rb
    (λ h. false≢true (sym c.if-not-is_merge_list.true ∙ (c.is_merge_list.ensures c.args.cat.now c.args.q.now (sym c.classes_of.ensures)).1 h))

pub returns-in-Some-clause-some : goal.returns-in-Some-clause-some
returns-in-Some-clause-some c = if-some c.own_of.result _ _ c.own_of.ensures.some (λ own h o i ra rb.
    let list = c.args.m.now.list.now in
    h c.args.cat.now c.args.q.now (merge list (sorted_if c.args.m.now.outer.sort list o) (sorted_if c.args.m.now.inner.sort list i))
    (merge-some c.args.cat.now c.args.q.now (entry c.args.a.now) (entry c.args.b.now) c.args.m.now.outer.sort c.args.m.now.inner.sort _ list _ c.items.ensures.list c.in-Some.ensures.some o i ra rb))

pub returns-in-Some-clause-none : goal.returns-in-Some-clause-none
returns-in-Some-clause-none c = if-none-then c.own_of.result _ _ c.own_of.ensures.none (λ h o i ra rb.
    let list = c.args.m.now.list.now in
    h c.args.cat.now c.args.q.now (merge list (sorted_if c.args.m.now.outer.sort list o) (sorted_if c.args.m.now.inner.sort list i))
    (merge-some c.args.cat.now c.args.q.now (entry c.args.a.now) (entry c.args.b.now) c.args.m.now.outer.sort c.args.m.now.inner.sort _ list _ c.items.ensures.list c.in-Some.ensures.some o i ra rb))

pub returns-in-None-clause-none : goal.returns-in-None-clause-none
returns-in-None-clause-none c = λ o i ra rb h.
    merge-none c.args.cat.now c.args.q.now (entry c.args.a.now) (entry c.args.b.now) c.args.m.now.outer.sort c.args.m.now.inner.sort c.args.m.now.list.now _ c.items.ensures.list c.in-None.ensures.none o i ra rb h.plan.built h.admissible
