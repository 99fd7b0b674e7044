use Rattle.std.proofs.Common.{◌∙◌, List, [], ◌∷◌, ◌++◌, ap, refl, sym}
use Rattle.std.proofs.lemmas.Bool.{true≢false}
use Rattle.std.specs.Prelude.{Some}
use Rattle.plan_tree.specs.declared.bits.BitTree.{BitTree as Bits}
use Rattle.certificate_entries.proofs.ElementLemmas.{element-has, elements-broken, elements-done, elements-first, elements-next, elements-none}
use Rattle.certificate_entries.proofs.elements.read_elements.Goals as goal

pub returns-in-None-clause-only : goal.returns-in-None-clause-only
returns-in-None-clause-only c = λ bs rest has some ends other e.
    absurd (elements-none c.args.cat.now c.args.q.now c.args.at.now c.read_element.new.at c.in_ok-element.field-0 c.in_ok-element.ensures.only c.in-None.is bs rest has some ends e)

pub list-init : goal.list-init
list-init c = elements-first c.args.cat.now c.args.q.now c.args.at.now c.read_element.new.at c.in_ok-element.field-0 c.in-Some.element c.push.new.self.items c.in_ok-element.ensures.only c.in-Some.is
    (element-has c.args.cat.now c.args.q.now c.in_ok-element.field-0 c.in-Some.element c.in-Some.is c.in_ok-element.ensures.has)
    (c.in_ok-push-in-Some.ensures.items ∙ ap (λ (l : List Bits). l ++ c.in-Some.element ∷ []) c.new-elements.ensures.items) c.read_element.ensures.shorter

pub list-preserved : goal.list-preserved
list-preserved c =
    elements-next c.args.cat.now c.args.q.now c.args.at.now c.list.at c.eat.new.self c.read_element-in-list.new.at c.list.elements.items c.push-in-Some-2.new.self.items c.in_ok-element-2.field-0 c.in-Some-2.element
    c.list.invariant (c.list-test.ensures.is refl) c.in_ok-element-2.ensures.only c.in-Some-2.is (element-has c.args.cat.now c.args.q.now c.in_ok-element-2.field-0 c.in-Some-2.element c.in-Some-2.is c.in_ok-element-2.ensures.has)
    c.in_ok-push-in-Some-2.ensures.items c.eat.ensures.shorter c.read_element-in-list.ensures.shorter

pub returns-in-None-2-clause-only : goal.returns-in-None-2-clause-only
returns-in-None-2-clause-only c = λ bs rest has some ends other e.
    absurd (elements-broken c.args.cat.now c.args.q.now c.args.at.now c.list.at c.eat.new.self c.read_element-in-list.new.at c.list.elements.items c.in_ok-element-2.field-0 c.list.invariant (c.list-test.ensures.is refl)
    c.in_ok-element-2.ensures.only c.in-None-2.is bs rest has some ends other e)

pub returns-clause-only : goal.returns-clause-only
returns-clause-only c = λ bs rest has some ends other e.
    let r = elements-done c.args.cat.now c.args.q.now c.args.at.now c.list.at c.eat.new.self c.list.elements.items c.list.invariant (λ r same. true≢false (sym (c.list-test.ensures.took r same).0)) (c.list-test.ensures.left refl) bs rest has some ends other e in
    (ap (λ l. Some l) r.0, r.1)
