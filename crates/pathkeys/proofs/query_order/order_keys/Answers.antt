use Rattle.std.proofs.Common.{◌++◌, List, [], ap, sym, ◌∙◌, subst}
use Rattle.eq_classes.specs.declared.classes.ClassNo.{ClassNo}
use Rattle.pathkeys.specs.Keys.{AreDifferent}
use Rattle.pathkeys.specs.work.Finding.{class_numbers, order_after}
use Rattle.pathkeys.proofs.OnceLemmas.{order_after_are, order_keys_are_keys, all_found}
use Rattle.pathkeys.proofs.query_order.order_keys.Goals as goal

pub loop-at-init : goal.loop-at-init
loop-at-init c =
    ap (λ (cs : List ClassNo). class_numbers cs ++ order_after c.args.classes.now [] c.args.order.now) c.new-items.ensures.items
    ∙ order_after_are c.args.classes.now c.args.order.now

pub keys_of-requires : goal.keys_of-requires
keys_of-requires c = record {
  different = subst AreDifferent (sym (all_found c.args.classes.now c.args.order.now c.loop-at.at (class_numbers c.loop-at.items.items) c.loop-at-test.false c.loop-at.invariant)) (order_keys_are_keys c.args.classes.now c.args.order.now).different;
}
