use Rattle.std.proofs.Common.{[], ◌∷◌, ◌++◌, List, Vec, refl, sym, ap, ◌∙◌}
use Rattle.std.specs.declared.alloc.Global.{Global}
use Rattle.eq_classes.specs.declared.order.OrderItem.{OrderItem}
use Rattle.sql_grammar.specs.Words.{words_of_orderings}
use Rattle.expr_reader.proofs.ReadsLemmas.{read-ok, read-refused, was-read}
use Rattle.query_reader.specs.Order.{order_item}
use Rattle.query_reader.specs.work.Scope.{visible_in}
use Rattle.query_reader.proofs.OrderLemmas.{more-orders, first, next-item, at-fault, more, all-read}
use Rattle.query_reader.proofs.order.order_items.Goals as goal

pub order_item-requires : goal.order_item-requires
order_item-requires c =
    let (o, os, rest, ends, is) = c.requires in
    (o, words_of_orderings os ++ rest, more-orders os rest ends, is)

pub returns-in_err-first : goal.returns-in_err-first
returns-in_err-first c = λ o os rest ends is.
    let s = c.args.relations.now in
    let bind = order_item (visible_in s) c.args.select.now in
    let n = first bind o os rest c.args.from.now is in
    read-refused OrderItem (Vec OrderItem Global) OrderItem (List OrderItem) (λ k. k) (λ v. v.items) _ _ _ _ _ _ _ _
    (c.in_err-first.ensures.read o _ (more-orders os rest ends) is) (λ f wrong. at-fault bind _ [] c.args.from.now rest n f wrong) c.from_residual.ensures.1

pub more-init : goal.more-init
more-init c = λ o os rest ends is.
    let s = c.args.relations.now in
    let bind = order_item (visible_in s) c.args.select.now in
    let n = first bind o os rest c.args.from.now is in
    let d = c.in_ok-first.first in
    let w = was-read OrderItem OrderItem (λ k. k) _ d _ _ (c.in_ok-first.ensures.read o _ (more-orders os rest ends) is) in
    more bind _ [] c.push.new.self.items c.args.from.now c.order_item.new.from rest n d w.meant w.words (c.in_ok-push.ensures.items ∙ ap (λ l. l ++ d ∷ []) c.new-all.ensures.items)

pub order_item-requires-in-more : goal.order_item-requires-in-more
order_item-requires-in-more c =
    let s = c.args.relations.now in
    let (o, os, rest, ends, is) = c.requires in
    let (token, comma) = c.more-test.ensures.took refl in
    let n = next-item (order_item (visible_in s) c.args.select.now) _ c.more.all.items c.more.from c.takes_mark.new.self rest token ends comma (c.more.invariant o os rest ends is) in
    (n.y, words_of_orderings n.ys ++ rest, more-orders n.ys rest ends, n.words)

pub returns-in_err-next : goal.returns-in_err-next
returns-in_err-next c = λ o os rest ends is.
    let s = c.args.relations.now in
    let bind = order_item (visible_in s) c.args.select.now in
    let (token, comma) = c.more-test.ensures.took refl in
    let n = next-item bind _ c.more.all.items c.more.from c.takes_mark.new.self rest token ends comma (c.more.invariant o os rest ends is) in
    read-refused OrderItem (Vec OrderItem Global) OrderItem (List OrderItem) (λ k. k) (λ v. v.items) _ _ _ _ _ _ _ _
    (c.in_err-next.ensures.read n.y _ (more-orders n.ys rest ends) n.words) (λ f wrong. at-fault bind _ _ c.takes_mark.new.self rest n f wrong) c.from_residual-in_err-next.ensures.1

pub more-preserved : goal.more-preserved
more-preserved c = λ o os rest ends is.
    let s = c.args.relations.now in
    let bind = order_item (visible_in s) c.args.select.now in
    let (token, comma) = c.more-test.ensures.took refl in
    let n = next-item bind _ c.more.all.items c.more.from c.takes_mark.new.self rest token ends comma (c.more.invariant o os rest ends is) in
    let d = c.in_ok-next.next in
    let w = was-read OrderItem OrderItem (λ k. k) _ d _ _ (c.in_ok-next.ensures.read n.y _ (more-orders n.ys rest ends) n.words) in
    more bind _ c.more.all.items c.push-in-more.new.self.items c.takes_mark.new.self c.order_item-in-more.new.from rest n d w.meant w.words c.in_ok-push-2.ensures.items

pub returns : goal.returns
returns c = λ o os rest ends is.
    let s = c.args.relations.now in
    let (all, left) = all-read (order_item (visible_in s) c.args.select.now) _ _ c.more.from rest (c.more-test.ensures.other refl) (c.more.invariant o os rest ends is) in
    read-ok (Vec OrderItem Global) (List OrderItem) (λ v. v.items) _ c.more.all rest _ (sym all) (c.more-test.ensures.left refl ∙ left)
