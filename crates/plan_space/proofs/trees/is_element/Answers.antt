use Rattle.std.proofs.Common.{◌≡◌, ◌∙◌, ap, sym, true≢false}
use Rattle.std.specs.Prelude.{Some, None}
use Rattle.std.specs.Option.{option_map}
use Rattle.plan_tree.specs.work.Views.{element}
use Rattle.plan_space.proofs.trees.is_element.Goals as goal

pub returns-in-Some-clause-yes : goal.returns-in-Some-clause-yes
returns-in-Some-clause-yes c = λ e x q r p. sym (c.element_of.ensures x q r p) ∙ ap (option_map element) c.in-Some.is ∙ ap Some (c.is_same.ensures.0 e)

pub returns-in-Some-clause-no : goal.returns-in-Some-clause-no
returns-in-Some-clause-no c = λ e x q r p same.
    let is : Some (element c.in-Some.own) ≡ Some (element c.args.e) = sym (ap (option_map element) c.in-Some.is) ∙ c.element_of.ensures x q r p ∙ same in
    let inner : element c.in-Some.own ≡ element c.args.e = cc is in
    true≢false (sym (c.is_same.ensures.1 inner) ∙ e)

pub returns-in-None-clause-no : goal.returns-in-None-clause-no
returns-in-None-clause-no c = λ e x q r p same.
    let is : None ≡ Some (element c.args.e) = sym (ap (option_map element) c.in-None.is) ∙ c.element_of.ensures x q r p ∙ same in
    cc is
