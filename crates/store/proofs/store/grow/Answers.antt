use Rattle.std.proofs.Common.{◌≡◌, ◌<◌, ◌≤◌, ◌+◌, ◌-◌, ◌∙◌, ap, arith, get_or, length, map, set, subst, sym, take}
use Rattle.std.proofs.Math.ListN.{length-set}
use Rattle.std.proofs.lemmas.Option.{get_or_from_slice_get}
use Rattle.heap.specs.Stored.{Stored}
use Rattle.catalog.specs.Contents.{numbers_from}
use Rattle.catalog.specs.work.Entries.{index_of}
use Rattle.catalog.proofs.LawfulLemmas.{few_indexes}
use Rattle.sql_query.specs.Worlds.{nothing_stored}
use Rattle.store.specs.work.Kept.{built_over, first_rows}
use Rattle.store.specs.work.View.{built}
use Rattle.store.proofs.GrowthLemmas.{at_err, count-other, count-own, counts-within, cut-all, index-before, lawful-index, looks-more, looks-within, mapped-long, next-other, next-own, not-grown, of-other, of-table}
use Rattle.pg_value.proofs.SortByLemmas.{at_ok}
use Rattle.store.proofs.store.grow.Goals as goal

pub overflow_cast-n : goal.overflow_cast-n
overflow_cast-n g c =
    let few = few_indexes c.args.rows.now.cat.now c.lawful.ensures in
    let long = mapped-long built (built_over (first_rows c.args.rows.now.before c.args.rows.now.table c.args.rows.now.heaps.now)) c.args.indexes.now.items c.args.rows.now.cat.now.indexes c.requires.built in
    omega (arith, few, long, c.loop-n-test.true, c.len-n-end.ensures)

pub loop-n-preserved-then-def-rows : goal.loop-n-preserved-then-def-rows
loop-n-preserved-then-def-rows g c =
    let xs = c.args.rows.now.cat.now.indexes in
    let long = mapped-long built (built_over (first_rows c.args.rows.now.before c.args.rows.now.table c.args.rows.now.heaps.now)) c.args.indexes.now.items xs c.requires.built in
    let lt : c.loop-n.n < length xs = omega (arith, long, c.loop-n-test.true, c.len-n-end.ensures) in
    let other = of-other xs c.loop-n.n c.args.rows.now.table (index_of c.index-def.result.now) c.index-def.ensures.value c.if-def-rows.true in
    record {
      long = c.loop-n.invariant.long;
      built = next-other c.args.rows.now.table c.args.rows.now.before c.args.rows.now.heaps.now c.requires.table c.requires.before xs c.loop-n.indexes.items c.loop-n.n lt c.loop-n.invariant.built other;
      looks = rw (count-other xs c.args.rows.now.table c.loop-n.n lt other) c.loop-n.invariant.looks;
    }

pub add_rows-requires-clause-from : goal.add_rows-requires-clause-from
add_rows-requires-clause-from g c =
    subst (λ (s : Stored). c.args.rows.now.before ≤ length s.rows) (get_or_from_slice_get c.args.rows.now.heaps.now c.args.rows.now.table.0 c.get-heap.result.now nothing_stored c.get-heap.ensures) c.requires.before

pub add_rows-requires-clause-lawful : goal.add_rows-requires-clause-lawful
add_rows-requires-clause-lawful g c =
    let xs = c.args.rows.now.cat.now.indexes in
    let long = mapped-long built (built_over (first_rows c.args.rows.now.before c.args.rows.now.table c.args.rows.now.heaps.now)) c.args.indexes.now.items xs c.requires.built in
    lawful-index c.args.rows.now.cat.now c.lawful.ensures c.loop-n.n c.args.rows.now.table (index_of c.index-def.result.now) (omega (arith, long, c.loop-n-test.true, c.len-n-end.ensures)) c.index-def.ensures.value c.if-def-rows.false c.get-heap.result.now.columns
    (ap (λ (s : Stored). s.columns) (sym (get_or_from_slice_get c.args.rows.now.heaps.now c.args.rows.now.table.0 c.get-heap.result.now nothing_stored c.get-heap.ensures)) ∙ c.requires.columns)

pub add_rows-requires-clause-built : goal.add_rows-requires-clause-built
add_rows-requires-clause-built g c =
    let xs = c.args.rows.now.cat.now.indexes in
    let d = index_of c.index-def.result.now in
    let long = mapped-long built (built_over (first_rows c.args.rows.now.before c.args.rows.now.table c.args.rows.now.heaps.now)) c.args.indexes.now.items xs c.requires.built in
    let lt : c.loop-n.n < length xs = omega (arith, long, c.loop-n-test.true, c.len-n-end.ensures) in
    index-before c.args.rows.now.table c.args.rows.now.before c.args.rows.now.heaps.now c.requires.table c.requires.before xs c.loop-n.indexes.items c.loop-n.n lt c.loop-n.invariant.built
    (of-table xs c.loop-n.n c.args.rows.now.table d c.index-def.ensures.value c.if-def-rows.false) d c.index-def.ensures.value c.get-heap.result.now
    (sym (get_or_from_slice_get c.args.rows.now.heaps.now c.args.rows.now.table.0 c.get-heap.result.now nothing_stored c.get-heap.ensures)) c.index_mut-index.result.now c.index_mut-index.ensures.value

pub returns-then-is_err-clause-refused : goal.returns-then-is_err-clause-refused
returns-then-is_err-clause-refused g c =
    let xs = c.args.rows.now.cat.now.indexes in
    let long = mapped-long built (built_over (first_rows c.args.rows.now.before c.args.rows.now.table c.args.rows.now.heaps.now)) c.args.indexes.now.items xs c.requires.built in
    let lt : c.loop-n.n < length xs = omega (arith, long, c.loop-n-test.true, c.len-n-end.ensures) in
    let is = set c.loop-n.indexes.items c.loop-n.n c.add_rows.new.self in
    c.shrink.ensures
    ∙ cut-all c.args.rows.now.table c.args.rows.now.before c.args.rows.now.heaps.now c.requires.table c.requires.before xs c.loop-n.n (map built is)
    (not-grown c.args.rows.now.table c.args.rows.now.before c.args.rows.now.heaps.now c.requires.table c.requires.before xs c.loop-n.indexes.items c.loop-n.n lt c.loop-n.invariant.built c.index_mut-index.result.now c.add_rows.new.self c.index_mut-index.ensures.value
    (at_err _ c.add_rows.result (sym c.is_err.ensures.value ∙ c.if-is_err.true) c.add_rows.ensures.refused))
    ∙ sym c.requires.built

pub returns-then-is_err-clause-fewer : goal.returns-then-is_err-clause-fewer
returns-then-is_err-clause-fewer g c =
    let xs = c.args.rows.now.cat.now.indexes in
    let heap = c.get-heap.result.now in
    let long = mapped-long built (built_over (first_rows c.args.rows.now.before c.args.rows.now.table c.args.rows.now.heaps.now)) c.args.indexes.now.items xs c.requires.built in
    let lt : c.loop-n.n < length xs = omega (arith, long, c.loop-n-test.true, c.len-n-end.ensures) in
    let same = of-table xs c.loop-n.n c.args.rows.now.table (index_of c.index-def.result.now) c.index-def.ensures.value c.if-def-rows.false in
    let stored : heap ≡ get_or c.args.rows.now.heaps.now c.args.rows.now.table.0 nothing_stored = sym (get_or_from_slice_get c.args.rows.now.heaps.now c.args.rows.now.table.0 heap nothing_stored c.get-heap.ensures) in
    let here = ap (λ (s : Stored). c.loop-n.looks + (length s.rows - c.args.rows.now.before)) stored in
    let more = count-own xs c.args.rows.now.table c.loop-n.n lt same in
    let all = counts-within 0 xs c.args.rows.now.table (c.loop-n.n + 1) in
    looks-within _ _ _ (length (numbers_from 0 (take c.loop-n.n xs) c.args.rows.now.table)) _ _ c.loop-n.invariant.looks (omega (arith, here, c.add_rows.ensures.fewer)) (omega (arith, more, all))

pub loop-n-preserved : goal.loop-n-preserved
loop-n-preserved g c =
    let xs = c.args.rows.now.cat.now.indexes in
    let d = index_of c.index-def.result.now in
    let heap = c.get-heap.result.now in
    let long = mapped-long built (built_over (first_rows c.args.rows.now.before c.args.rows.now.table c.args.rows.now.heaps.now)) c.args.indexes.now.items xs c.requires.built in
    let lt : c.loop-n.n < length xs = omega (arith, long, c.loop-n-test.true, c.len-n-end.ensures) in
    let same = of-table xs c.loop-n.n c.args.rows.now.table d c.index-def.ensures.value c.if-def-rows.false in
    let stored : heap ≡ get_or c.args.rows.now.heaps.now c.args.rows.now.table.0 nothing_stored = sym (get_or_from_slice_get c.args.rows.now.heaps.now c.args.rows.now.table.0 heap nothing_stored c.get-heap.ensures) in
    let ok = sym c.is_err.ensures.value ∙ c.if-is_err.false in
    record {
      long = length-set c.loop-n.indexes.items c.loop-n.n c.add_rows.new.self ∙ c.loop-n.invariant.long;
      built =
          next-own c.args.rows.now.table c.args.rows.now.before c.args.rows.now.heaps.now c.requires.table c.requires.before xs c.loop-n.indexes.items c.loop-n.n lt c.loop-n.invariant.built
          same d c.index-def.ensures.value heap stored c.add_rows.new.self (at_ok _ c.add_rows.result ok c.add_rows.ensures.built);
      looks =
          looks-more _ _ _ (length (numbers_from 0 (take c.loop-n.n xs) c.args.rows.now.table)) _ _ c.loop-n.invariant.looks
          (at_ok _ c.add_rows.result ok c.add_rows.ensures.looks ∙ ap (λ (s : Stored). c.loop-n.looks + (length s.rows - c.args.rows.now.before)) stored)
          (count-own xs c.args.rows.now.table c.loop-n.n lt same);
    }
