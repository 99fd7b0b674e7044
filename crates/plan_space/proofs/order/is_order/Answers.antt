use Rattle.std.proofs.Common.{◌∙◌, sym}
use Rattle.std.proofs.lemmas.List.{length-map}
use Rattle.eq_classes.specs.declared.classes.ClassNo.{ClassNo}
use Rattle.plan_space.proofs.OrderLemmas.{covers-same, same-keys}
use Rattle.plan_space.proofs.order.is_order.Goals as goal

pub returns-then-n-list-clause-yes : goal.returns-then-n-list-clause-yes
returns-then-n-list-clause-yes c = λ some.
    sym c.items-list.ensures.list ∙ same-keys _ _ c.in-Some.ensures.some (sym c.in-Some.ensures.count ∙ c.if-n-list.true ∙ sym (length-map c.items-list.result.now (λ (x : ClassNo). x.0)))

pub returns-in-None-clause-no : goal.returns-in-None-clause-no
returns-in-None-clause-no c = λ same some. sym c.in-None.ensures.none ∙ covers-same _ _ (c.items-list.ensures.list ∙ same)
