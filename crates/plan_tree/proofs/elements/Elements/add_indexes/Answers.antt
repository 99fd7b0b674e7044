use Rattle.std.proofs.Common.{◌∙◌, ap, sym, subst, List, map, ◌++◌}
use Rattle.pg_base.specs.Sets.{has}
use Rattle.pg_base.specs.declared.numbers.IndexNo.{IndexNo}
use Rattle.sql_query.specs.catalog_Contents.{indexes_of}
use Rattle.plan_tree.specs.Bitmaps.{IsElement, by_index}
use Rattle.plan_tree.specs.work.Gathering.{Gathered}
use Rattle.plan_tree.proofs.ElementLemmas.{index-within}
use Rattle.plan_tree.proofs.GatherLemmas.{gather-index, gather-end}
use Rattle.plan_tree.proofs.elements.Elements.add_indexes.Goals as goal

pub is_index_element-is-requires-clause-index : goal.is_index_element-is-requires-clause-index
is_index_element-is-requires-clause-index c =
    index-within c.args.cat.now c.args.q.now c.args.r.0 c.indexes-i-items.result.now c.loop-i.i-index _ (c.indexes-i-items.ensures.value ∙ ap (indexes_of c.args.cat.now) c.table_of.ensures.table) c.loop-i-test.true

pub loop-i-preserved : goal.loop-i-preserved
loop-i-preserved c = λ all rest h.
    let P = IsElement c.args.cat.now c.args.q.now c.args.r.0 (has c.args.p.0) in
    subst (Gathered P all _) (sym c.note.ensures) (gather-index P all c.indexes-i-items.result.now c.loop-i.i-index _ rest c.loop-i.self c.is_index_element-is.result c.loop-i-test.true c.is_index_element-is.ensures (c.loop-i.invariant all rest h))

pub returns : goal.returns
returns c = λ all rest h.
    let P = IsElement c.args.cat.now c.args.q.now c.args.r.0 (has c.args.p.0) in
    gather-end P all c.indexes-i-items.result.now c.loop-i.i-index rest c.loop-i.self c.loop-i-test.false
    (c.loop-i.invariant all rest (subst (λ (xs : List IndexNo). Gathered P all (map by_index xs ++ rest) c.args.self.now) (sym (c.indexes-i-items.ensures.value ∙ ap (indexes_of c.args.cat.now) c.table_of.ensures.table)) h))
