use Rattle.std.proofs.Common.{◌∷◌, ◌++◌, [], List, sym, ap, ◌∙◌}
use Rattle.pg_base.specs.declared.numbers.Tid.{Tid}
use Rattle.heap.specs.Tuples.{relation_count}
use Rattle.heap.specs.work.Tuples.{TupleList}
use Rattle.sort_rows.proofs.SortLemmas.{rows_more}
use Rattle.sort_rows.proofs.sort.rows_of.Goals as goal

pub get-requires : goal.get-requires
get-requires c = c.requires c.loop-item.item-index _ c.loop-item-test.true

pub add-requires : goal.add-requires
add-requires c = c.get.ensures.width ∙ ap (λ (t : TupleList). relation_count t.set) (sym c.loop-item.invariant)

pub loop-item-preserved : goal.loop-item-preserved
loop-item-preserved c =
    c.in_ok-add.ensures.added
    ∙ ap (λ (t : TupleList). let u : TupleList = record { set = t.set; rows = t.rows ++ c.get.result.now ∷ [] } in u) c.loop-item.invariant
    ∙ ap (λ (l : List (List Tid)). let u : TupleList = record { set = c.args.input.now.set; rows = l } in u)
    (rows_more c.args.input.now.rows c.args.items.now c.loop-item.item-index _ c.get.result.now c.loop-item-test.true c.get.ensures.row)
