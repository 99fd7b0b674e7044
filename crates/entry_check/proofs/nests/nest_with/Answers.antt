use Rattle.std.proofs.Common.{◌∙◌, refl, sym}
use Rattle.std.proofs.lemmas.Bool.{false≢true}
use Rattle.plan_tree.proofs.BoundLemmas.{lawful-rows}
use Rattle.plan_tree.specs.Plans.{nest}
use Rattle.plan_check.specs.work.Views.{entry}
use Rattle.entry_check.proofs.CostLemmas.{whole-rows}
use Rattle.plan_check.proofs.NestLemmas.{built-nest}
use Rattle.entry_check.proofs.NestLemmas.{nest-right, nest-set}
use Rattle.entry_check.proofs.PartLemmas.{set-estimate}
use Rattle.entry_check.proofs.WorkLemmas.{both-sets}
use Rattle.plan_space.proofs.OrderLemmas.{if-none}
use Rattle.entry_check.proofs.nests.nest_with.Goals as goal

pub nest_cost-requires-clause-outer_set : goal.nest_cost-requires-clause-outer_set
nest_cost-requires-clause-outer_set c = c.part_of-outer.ensures.set ∙ c.requires.outer_set

pub nest_cost-requires-clause-inner_set : goal.nest_cost-requires-clause-inner_set
nest_cost-requires-clause-inner_set c = c.part_of-inner.ensures.set ∙ c.requires.inner_set

pub returns-then-not-may_nest-clause-none : goal.returns-then-not-may_nest-clause-none
returns-then-not-may_nest-clause-none c = λ o i ra rb built admissible.
    false≢true (sym c.if-not-may_nest.true ∙ c.may_nest.ensures.1 (built-nest c.args.cat.now c.args.q.now (entry c.args.a.now) (entry c.args.b.now) o i ra rb built))

pub returns-in_err-own-clause-none : goal.returns-in_err-own-clause-none
returns-in_err-own-clause-none c =
    if-none c.from_residual.result _
    (λ o i ra rb built. c.in_err-own.ensures.none c.args.cat.now (nest o i) (c.nest_cost.ensures c.args.cat.now o i (c.part_of-outer.ensures.part o ra) (c.part_of-inner.ensures.part i rb)))

pub returns-clause-some : goal.returns-clause-some
returns-clause-some c = λ o i ra rb.
    let contents = c.args.cat.now in
    let q = c.args.q.now in
    let a = entry c.args.a.now in
    let b = entry c.args.b.now in
    let work = c.args.work.now in
    let all = both-sets work.set.0 a.set.0 b.set.0 work.outer.0 work.inner.0 c.requires.outer_set c.requires.inner_set c.requires.work.union in
    let cost = c.nest_cost.ensures contents o i (c.part_of-outer.ensures.part o ra) (c.part_of-inner.ensures.part i rb) in
    let rows = set-estimate contents q work.set (nest o i) work.rows (nest-set contents q a b o i ra rb work.set all) (whole-rows contents q (nest o i) (λ k. refl)) c.requires.work.estimated in
    nest-right contents q a b o i ra rb work.set all c.in_ok-own.own _ (c.may_nest.ensures.0 c.if-not-may_nest.false)
    (c.in_ok-own.ensures.some contents (nest o i) (lawful-rows contents q c.lawful.ensures) cost rows) c.items.ensures.list
