use Rattle.std.proofs.Common.{List, Vec, Ok, refl, sym, ap, ◌∙◌, subst}
use Rattle.std.specs.declared.alloc.Global.{Global}
use Rattle.eq_classes.specs.declared.order.OrderItem.{OrderItem}
use Rattle.path_cost.specs.work.Columns.{is_column_in}
use Rattle.pg_expr.specs.declared.operand.ColRef.{ColRef}
use Rattle.expr_reader.proofs.ReadsLemmas.{read-ok, read-has}
use Rattle.expr_reader.specs.work.Reads.{Reads}
use Rattle.query_reader.specs.Order.{order_items}
use Rattle.query_reader.specs.work.Scope.{visible_in}
use Rattle.query_reader.proofs.OrderLemmas.{there, no-order, order-seen}
use Rattle.query_reader.proofs.order.order_by.Goals as goal

pub returns-then-not-takes-clause-read : goal.returns-then-not-takes-clause-read
returns-then-not-takes-clause-read c = λ y rest ends is.
    let s = c.args.relations.now in
    let (none, left) = no-order (visible_in s) c.args.select.now y rest c.args.from.now c.takes.new.self (c.if-not-takes.ensures.other refl) (c.if-not-takes.ensures.left refl) is in
    read-ok (Vec OrderItem Global) (List OrderItem) (λ v. v.items) _ _ rest _ (ap Ok c.new.ensures.items ∙ none) left

pub order_items-requires : goal.order_items-requires
order_items-requires c =
    let (y, rest, ends, is) = c.requires in
    let (key, took) = c.if-not-takes.ensures.took refl in
    let t = there y rest c.args.from.now c.takes.new.self c.skip.new.self key ends is took c.skip.ensures in
    (t.item, t.items, rest, ends, t.words)

pub returns-clause-read : goal.returns-clause-read
returns-clause-read c = λ y rest ends is.
    let s = c.args.relations.now in
    let (key, took) = c.if-not-takes.ensures.took refl in
    let t = there y rest c.args.from.now c.takes.new.self c.skip.new.self key ends is took c.skip.ensures in
    let placed = subst (λ z. Reads (λ (v : Vec OrderItem Global). v.items) (order_items (visible_in s) c.of.result z) rest c.order_items.result c.order_items.new.from) (sym t.is)
    (c.order_items.ensures t.item t.items rest ends t.words) in
    subst (λ (xs : List ColRef). Reads (λ (v : Vec OrderItem Global). v.items) (order_items (visible_in s) xs y) rest c.order_items.result c.order_items.new.from) c.of.ensures placed

pub returns-clause-over : goal.returns-clause-over
returns-clause-over c =
    let s = c.args.relations.now in
    let (y, rest, ends, is) = c.requires in
    let (key, took) = c.if-not-takes.ensures.took refl in
    let t = there y rest c.args.from.now c.takes.new.self c.skip.new.self key ends is took c.skip.ensures in
    let placed = subst (λ z. Reads (λ (v : Vec OrderItem Global). v.items) (order_items (visible_in s) c.of.result z) rest c.order_items.result c.order_items.new.from) (sym t.is)
    (c.order_items.ensures t.item t.items rest ends t.words) in
    let read = subst (λ (xs : List ColRef). Reads (λ (v : Vec OrderItem Global). v.items) (order_items (visible_in s) xs y) rest c.order_items.result c.order_items.new.from) c.of.ensures placed in
    read-has (Vec OrderItem Global) (List OrderItem) (λ v. v.items) _ (order_items (visible_in s) c.args.select.now y) c.order_items.result rest _ read
    (order-seen (visible_in s) (is_column_in s.contents s.range) c.see_their_columns.ensures c.args.select.now y)
