use Rattle.std.proofs.Common.{◌≡◌, ◌<◌, List, All, length, map, sym, ap, ◌∙◌, subst, arith}
use Rattle.std.specs.Ordering.{on}
use Rattle.std.proofs.lemmas.Result.{IfOk-weaker}
use Rattle.pg_base.specs.Sets.{has}
use Rattle.pg_base.specs.declared.numbers.Tid.{Tid}
use Rattle.pg_base.specs.declared.rel_set.RelSet.{RelSet}
use Rattle.pg_value.specs.Sorting.{in_order}
use Rattle.eq_classes.specs.Holding.{IsWithin}
use Rattle.eq_classes.specs.declared.classes.ClassNo.{ClassNo}
use Rattle.heap.specs.work.Tuples.{TupleList, padded_tuples}
use Rattle.pathkeys.specs.Sorted.{keys_order}
use Rattle.sql_query.specs.Queries.{Query, all_of_query, width}
use Rattle.sql_query.specs.Tuples.{value_at}
use Rattle.sql_query.specs.Worlds.{world}
use Rattle.sort_rows.specs.declared.columns.SortColumn.{SortColumn}
use Rattle.sort_rows.specs.work.Columns.{columns_order, key_at, IsSortColumn}
use Rattle.sort_rows.specs.work.Rows.{tuple_of, AllHaveRows, HasRows}
use Rattle.sort_rows.proofs.ColumnLemmas.{columns_are, columns_given}
use Rattle.sort_rows.proofs.ListLemmas.{All-unmap}
use Rattle.sort_rows.proofs.SortLemmas.{rows_kept, tuples_sorted}
use Rattle.sort_rows.proofs.sort.sort_rows.Goals as goal

pub sort_columns-requires : goal.sort_columns-requires
sort_columns-requires g c =
    let classes : c.q.inside.classes ≡ c.args.q.now.classes = ap (λ (x : Query). x.classes) c.q.view_is in
    rw classes (All-unmap (λ n. n < length c.args.q.now.classes.classes) (λ (x : ClassNo). x.0) c.items.result.now (rw c.items.ensures.list c.requires.keys))

pub sorted-requires-clause-source : goal.sorted-requires-clause-source
sorted-requires-clause-source g c =
    let cat = c.args.cat.now in
    let q = c.args.q.now in
    let input = c.args.input.now in
    let given = columns_given c.q.inside.classes q.classes c.set.result input.set _ c.args.keys.now c.deref.result.now c.in_ok-columns.columns.items c.deref.ensures.value c.in_ok-columns.ensures
    (ap (λ (x : Query). x.classes) c.q.view_is) c.set.ensures c.items.ensures.list in
    record {
      world = c.requires.world;
      tables = c.requires.bound.range.tables;
      set = subst (λ (s : RelSet). IsWithin (has s.0) (all_of_query q)) (sym c.set-2.ensures) c.requires.set;
      few = omega arith;
      columns = subst (λ (s : RelSet). All (IsSortColumn cat q (has s.0)) c.deref.result.now) (sym c.set-2.ensures)
          (subst (λ (l : List SortColumn). All (IsSortColumn cat q (has input.set.0)) l) (sym given) (columns_are cat q c.requires.bound (has input.set.0) c.args.keys.now c.requires.keys));
    }

pub returns-clause-sorted : goal.returns-clause-sorted
returns-clause-sorted g c =
    let w = world c.args.cat.now c.args.heaps.now in
    let input = c.args.input.now in
    let q = c.args.q.now in
    let cs = c.deref.result.now in
    let given = columns_given c.q.inside.classes q.classes c.set.result input.set _ c.args.keys.now c.deref.result.now c.in_ok-columns.columns.items c.deref.ensures.value c.in_ok-columns.ensures
    (ap (λ (x : Query). x.classes) c.q.view_is) c.set.ensures c.items.ensures.list in
    IfOk-weaker c.sorted.result
    (λ (r : TupleList). r ≡ record { set = input.set; rows = in_order (on (λ (row : List Tid). key_at cs (value_at w q (tuple_of q c.set-2.result row))) (columns_order cs)) input.rows })
    (λ (r : TupleList). padded_tuples (width q) r ≡ in_order (keys_order (value_at w q) q.classes (has input.set.0) c.args.keys.now) (padded_tuples (width q) input))
    (λ r is.
    ap (padded_tuples (width q)) is
    ∙ ap (λ (s : RelSet). map (tuple_of q input.set) (in_order (on (λ (row : List Tid). key_at cs (value_at w q (tuple_of q s row))) (columns_order cs)) input.rows)) c.set-2.ensures
    ∙ tuples_sorted w q input.set c.args.keys.now cs given input.rows) c.sorted.ensures.rows

pub returns-clause-rows : goal.returns-clause-rows
returns-clause-rows g c =
    let w = world c.args.cat.now c.args.heaps.now in
    let input = c.args.input.now in
    let q = c.args.q.now in
    let cs = c.deref.result.now in
    let given = columns_given c.q.inside.classes q.classes c.set.result input.set _ c.args.keys.now c.deref.result.now c.in_ok-columns.columns.items c.deref.ensures.value c.in_ok-columns.ensures
    (ap (λ (x : Query). x.classes) c.q.view_is) c.set.ensures c.items.ensures.list in
    let have : All (HasRows w q (has input.set.0)) (in_order (on (λ (row : List Tid). key_at cs (value_at w q (tuple_of q c.set-2.result row))) (columns_order cs)) input.rows) =
    subst (λ (s : RelSet). All (HasRows w q (has input.set.0)) (in_order (on (λ (row : List Tid). key_at cs (value_at w q (tuple_of q s row))) (columns_order cs)) input.rows)) (sym c.set-2.ensures)
    (rows_kept w q input.set c.args.keys.now cs given (HasRows w q (has input.set.0)) input.rows c.requires.rows) in
    IfOk-weaker c.sorted.result
    (λ (r : TupleList). r ≡ record { set = input.set; rows = in_order (on (λ (row : List Tid). key_at cs (value_at w q (tuple_of q c.set-2.result row))) (columns_order cs)) input.rows })
    (λ (r : TupleList). AllHaveRows w q r)
    (λ r is. subst (λ (t : TupleList). AllHaveRows w q t) (sym is) have) c.sorted.ensures.rows
