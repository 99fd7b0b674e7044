use Rattle.std.proofs.Common.{◌∙◌, arith}
use Rattle.opfamily.specs.declared.classes.IndexKey.{IndexKey}
use Rattle.plan_tree.specs.Entries.{cell}
use Rattle.store.proofs.FoundLemmas.{cell-at, mapped-next}
use Rattle.store.proofs.entries.key_values.Goals as goal

pub loop-key-preserved : goal.loop-key-preserved
loop-key-preserved c =
    c.in_ok-push.ensures.items
    ∙ mapped-next (λ (k : IndexKey). cell c.args.row.now k.col) c.args.keys.now c.loop-key.key-index _ c.loop-key.values.items c.in_ok-copy.field-0 (omega arith) c.loop-key.invariant
    (c.in_ok-copy.ensures ∙ cell-at c.args.row.now _ c.value_in.result.now c.value_in.ensures)
