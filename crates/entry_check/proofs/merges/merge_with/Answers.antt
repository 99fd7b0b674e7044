use Rattle.std.proofs.Common.{◌∙◌, refl, sym}
use Rattle.std.proofs.lemmas.Bool.{false≢true}
use Rattle.pathkeys.specs.work.Finding.{class_numbers}
use Rattle.plan_tree.proofs.BoundLemmas.{lawful-rows}
use Rattle.plan_tree.specs.Plans.{merge}
use Rattle.plan_check.specs.Certificates.{sorted_if}
use Rattle.plan_check.specs.work.Views.{entry}
use Rattle.entry_check.proofs.CostLemmas.{whole-rows}
use Rattle.plan_check.proofs.MergeLemmas.{built-merge}
use Rattle.entry_check.proofs.MergeLemmas.{merge-right, merge-set}
use Rattle.entry_check.proofs.PartLemmas.{set-estimate}
use Rattle.entry_check.proofs.WorkLemmas.{both-sets}
use Rattle.plan_space.proofs.OrderLemmas.{if-none}
use Rattle.entry_check.proofs.merges.merge_with.Goals as goal

pub merge_cost-requires-clause-outer_set : goal.merge_cost-requires-clause-outer_set
merge_cost-requires-clause-outer_set c = c.side_of-outer.ensures.set ∙ c.requires.outer_set

pub merge_cost-requires-clause-inner_set : goal.merge_cost-requires-clause-inner_set
merge_cost-requires-clause-inner_set c = c.side_of-inner.ensures.set ∙ c.requires.inner_set

pub side_of-outer-requires-clause-whole : goal.side_of-outer-requires-clause-whole
side_of-outer-requires-clause-whole c = ((c.may_merge.ensures c.args.cat.now c.args.q.now c.requires.list).0 c.if-not-may_merge.false).outer_whole

pub side_of-inner-requires-clause-whole : goal.side_of-inner-requires-clause-whole
side_of-inner-requires-clause-whole c = ((c.may_merge.ensures c.args.cat.now c.args.q.now c.requires.list).0 c.if-not-may_merge.false).inner_whole

pub returns-then-not-may_merge-clause-none : goal.returns-then-not-may_merge-clause-none
returns-then-not-may_merge-clause-none c = λ o i ra rb built admissible.
    let may = c.may_merge.ensures c.args.cat.now c.args.q.now c.requires.list in
    false≢true (sym c.if-not-may_merge.true ∙ may.1 (built-merge c.args.cat.now c.args.q.now (class_numbers c.args.work.now.list.now) (entry c.args.a.now) (entry c.args.b.now) c.args.sorts.0 c.args.sorts.1 o i ra rb built))

pub returns-in_err-own-clause-none : goal.returns-in_err-own-clause-none
returns-in_err-own-clause-none c =
    let list = class_numbers c.args.work.now.list.now in
    if-none c.from_residual.result _
    (λ o i ra rb built.
    c.in_err-own.ensures.none c.args.cat.now (merge list (sorted_if c.args.sorts.0 list o) (sorted_if c.args.sorts.1 list i))
    (c.merge_cost.ensures c.args.cat.now (sorted_if c.args.sorts.0 list o) (sorted_if c.args.sorts.1 list i) c.requires.work (c.side_of-outer.ensures.part list o ra) (c.side_of-inner.ensures.part list i rb)))

pub returns-clause-some : goal.returns-clause-some
returns-clause-some c = λ o i ra rb.
    let contents = c.args.cat.now in
    let q = c.args.q.now in
    let a = entry c.args.a.now in
    let b = entry c.args.b.now in
    let work = c.args.work.now in
    let set = work.set in
    let all = both-sets work.set.0 a.set.0 b.set.0 work.outer.0 work.inner.0 c.requires.outer_set c.requires.inner_set c.requires.work.union in
    let list = class_numbers c.args.work.now.list.now in
    let sa = c.args.sorts.0 in
    let sb = c.args.sorts.1 in
    let p = merge list (sorted_if sa list o) (sorted_if sb list i) in
    let cost = c.merge_cost.ensures contents (sorted_if sa list o) (sorted_if sb list i) c.requires.work (c.side_of-outer.ensures.part list o ra) (c.side_of-inner.ensures.part list i rb) in
    let rows = set-estimate contents q set p work.rows (merge-set contents q list a b sa sb o i ra rb set all) (whole-rows contents q p (λ k. refl)) c.requires.work.estimated in
    merge-right contents q list a b sa sb o i ra rb set all c.in_ok-own.own _ ((c.may_merge.ensures contents q c.requires.list).0 c.if-not-may_merge.false)
    (c.in_ok-own.ensures.some contents p (lawful-rows contents q c.lawful.ensures) cost rows) c.keys_of.ensures
