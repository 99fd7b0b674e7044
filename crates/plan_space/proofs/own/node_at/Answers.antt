use Rattle.std.proofs.Common.{◌≡◌, ◌∙◌, ℕ, ap, get_or, sym}
use Rattle.plan_tree.specs.work.Views.{plan}
use Rattle.plan_space.specs.Numbered.{lines_from, own_numbers}
use Rattle.plan_space.proofs.PartLemmas.{first-line, first-own, further, whole}
use Rattle.plan_space.proofs.own.node_at.Goals as goal

pub parts-init : goal.parts-init
parts-init c = whole c.args.cat.now c.args.q.now (plan c.args.p.now) 1 c.args.place c.requires.within

pub parts-preserved : goal.parts-preserved
parts-preserved c =
    let cat = c.args.cat.now in
    let q = c.args.q.now in
    further cat q (plan c.args.p.now) 1 c.args.place (plan c.parts.part.plan.now) c.parts.part.at c.parts.part.place (plan c.child_of-part.result.plan.now) c.child_of-part.result.at c.child_of-part.result.place c.parts.invariant (c.child_of-part.ensures.part cat q)

pub returns-clause-line : goal.returns-clause-line
returns-clause-line c =
    let part = c.parts.part in
    let zero : part.place ≡ 0 = c.parts-test.false in
    c.root_of.ensures.line ∙ (sym (first-line part.at (plan part.plan.now)) ∙ (ap (λ (n : ℕ). get_or (lines_from part.at (plan part.plan.now)) n 0) (sym zero) ∙ c.parts.invariant.line))

pub returns-clause-own : goal.returns-clause-own
returns-clause-own c =
    let part = c.parts.part in
    let cat = c.args.cat.now in
    let q = c.args.q.now in
    let zero : part.place ≡ 0 = c.parts-test.false in
    c.root_of.ensures.own ∙ (sym (first-own cat q (plan part.plan.now)) ∙ (ap (λ (n : ℕ). get_or (own_numbers cat q (plan part.plan.now)) n (0, 0)) (sym zero) ∙ c.parts.invariant.own))
