use Rattle.std.proofs.Common.{◌+◌, ◌∙◌, List, ap, drop, subst}
use Rattle.std.proofs.lemmas.List.{drop_more, drop_all}
use Rattle.eq_classes.specs.declared.order.OrderItem.{OrderItem}
use Rattle.pathkeys.specs.work.Finding.{class_numbers}
use Rattle.plan_space.specs.work.OrderKeys.{GoesOnAs, classes_asked, goes_on}
use Rattle.plan_space.proofs.OrderLemmas.{begun-all, begun-no, if-none}
use Rattle.plan_space.proofs.order.keys_begun.Goals as goal

pub returns-in_err-at-clause-none : goal.returns-in_err-at-clause-none
returns-in_err-at-clause-none c =
    let t = c.args.classes.now in
    let order = c.args.order.now in
    let keys = class_numbers c.args.list.now in
    let at = c.loop-item.at in
    let i = c.loop-item.item-index in
    if-none _ _ (begun-no t order keys at (classes_asked t (drop i order)) c.loop-item.invariant.goes (ap (λ (is : List OrderItem). goes_on keys at (classes_asked t is)) (drop_more order i _ c.loop-item-test.true) ∙ c.in_err-at.ensures.none (drop (i + 1) order)))

pub returns-clause-some : goal.returns-clause-some
returns-clause-some c =
    let t = c.args.classes.now in
    let order = c.args.order.now in
    let keys = class_numbers c.args.list.now in
    (begun-all t order keys c.loop-item.at (subst (λ (is : List OrderItem). GoesOnAs keys 0 (classes_asked t order) c.loop-item.at (classes_asked t is)) (drop_all c.loop-item.item-index order c.loop-item-test.false) c.loop-item.invariant.goes)).0

pub returns-clause-count : goal.returns-clause-count
returns-clause-count c =
    let t = c.args.classes.now in
    let order = c.args.order.now in
    let keys = class_numbers c.args.list.now in
    (begun-all t order keys c.loop-item.at (subst (λ (is : List OrderItem). GoesOnAs keys 0 (classes_asked t order) c.loop-item.at (classes_asked t is)) (drop_all c.loop-item.item-index order c.loop-item-test.false) c.loop-item.invariant.goes)).1
