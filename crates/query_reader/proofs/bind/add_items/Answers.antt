use Rattle.std.proofs.Common.{◌++◌, ◌+◌, Ok, drop, sym, ap, ◌∙◌, arith, append_assoc}
use Rattle.query_reader.specs.work.Scope.{visible_in}
use Rattle.query_reader.specs.Binding.{list_columns, then_columns}
use Rattle.query_reader.proofs.AddLemmas.{adds-ok, list-stopped, then-then, next-item-columns}
use Rattle.query_reader.proofs.bind.add_items.Goals as goal

pub loop-item-preserved : goal.loop-item-preserved
loop-item-preserved c =
    let scope = visible_in c.args.relations.now in
    let (so, grown, whole) = c.loop-item.invariant in
    let a = adds-ok _ _ _ _ c.in_ok-add_item.ensures in
    let later = list_columns scope (drop (c.loop-item.item-index + 1) c.args.items.now) in
    let next = next-item-columns scope c.args.items.now c.loop-item.item-index c.item-item.result (omega arith) c.item-item.is in (
      so ++ a.columns,
      a.grown ∙ (ap (λ l. l ++ a.columns) grown ∙ append_assoc c.args.all.now.items so a.columns),
      sym (then-then so a.columns later) ∙ (ap (then_columns (Ok so)) (ap (λ x. then_columns x later) (sym a.is) ∙ sym next) ∙ whole),
    )

pub returns-in_err-add_item : goal.returns-in_err-add_item
returns-in_err-add_item c =
    let scope = visible_in c.args.relations.now in
    let (so, grown, whole) = c.loop-item.invariant in
    let next = next-item-columns scope c.args.items.now c.loop-item.item-index c.item-item.result (omega arith) c.item-item.is in
    list-stopped _ _ _ _ _ so _ _ _ _ _ (ap (then_columns (Ok so)) (sym next) ∙ whole) c.in_err-add_item.ensures c.from_residual.ensures.1
