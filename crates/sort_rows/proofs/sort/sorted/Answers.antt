use Rattle.std.proofs.Common.{◌≡◌, ◌<◌, Bor, List, All, sym, ap, ◌∙◌, subst, map, length}
use Rattle.std.proofs.lemmas.Result.{IfOk-weaker}
use Rattle.pg_base.specs.declared.numbers.Tid.{Tid}
use Rattle.pg_value.specs.Sorting.{in_order}
use Rattle.pg_value.specs.declared.value.Value.{Value}
use Rattle.heap.specs.work.Tuples.{TupleList}
use Rattle.sql_query.specs.Tuples.{value_at}
use Rattle.sort_rows.specs.declared.sort.Keyed.{Keyed}
use Rattle.sort_rows.specs.work.Keyed.{keyed_order, rows_keyed, AreKeyed}
use Rattle.sort_rows.specs.work.KeySource.{by_key, key_of, world_of}
use Rattle.sort_rows.specs.work.Rows.{tuple_of}
use Rattle.sort_rows.proofs.SortLemmas.{key_wide, places_within, rows_sorted}
use Rattle.sort_rows.proofs.sort.sorted.Goals as goal

abbrev value : Bor Value → Value
value v = v.now

pub rows_of-requires : goal.rows_of-requires
rows_of-requires g c =
    let at = c.args.at.now in
    let cs = at.columns.now in
    let rows = c.args.input.now.rows in
    let keys = map value c.in_ok-keys.keys.items in
    let items = c.in_ok-items.items.items in
    let are : AreKeyed cs keys (length rows) items = subst (λ (l : List (Bor Value)). AreKeyed cs (map value l) (length rows) items) c.deref.ensures.value c.in_ok-items.ensures.keys in
    let is : c.deref-3.result.now ≡ in_order (keyed_order cs keys) items =
    c.deref-3.ensures.value ∙ c.in_ok-sort_keyed.ensures ∙ ap (λ (l : List (Bor Value)). in_order (keyed_order cs (map value l)) items) c.deref-2.ensures.value in
    subst (λ (ks : List Keyed). All (λ (k : Keyed). k.place < length rows) ks) (sym is)
    (places_within cs (key_of at) (λ row. key_wide cs (value_at (world_of at) at.q.now (tuple_of at.q.now at.set row))) rows keys c.in_ok-keys.ensures.keys items are)

pub returns-clause-rows : goal.returns-clause-rows
returns-clause-rows g c =
    let at = c.args.at.now in
    let cs = at.columns.now in
    let set = c.args.input.now.set in
    let rows = c.args.input.now.rows in
    let keys = map value c.in_ok-keys.keys.items in
    let items = c.in_ok-items.items.items in
    let are : AreKeyed cs keys (length rows) items = subst (λ (l : List (Bor Value)). AreKeyed cs (map value l) (length rows) items) c.deref.ensures.value c.in_ok-items.ensures.keys in
    let is : c.deref-3.result.now ≡ in_order (keyed_order cs keys) items =
    c.deref-3.ensures.value ∙ c.in_ok-sort_keyed.ensures ∙ ap (λ (l : List (Bor Value)). in_order (keyed_order cs (map value l)) items) c.deref-2.ensures.value in
    let all : rows_keyed rows c.deref-3.result.now ≡ in_order (by_key at) rows =
    ap (rows_keyed rows) is
    ∙ rows_sorted cs (key_of at) (λ row. key_wide cs (value_at (world_of at) at.q.now (tuple_of at.q.now at.set row))) rows keys c.in_ok-keys.ensures.keys items are c.in_ok-items.ensures.rows in
    IfOk-weaker c.rows_of.result (λ (r : TupleList). r ≡ record { set = set; rows = rows_keyed rows c.deref-3.result.now })
    (λ (r : TupleList). r ≡ record { set = set; rows = in_order (by_key at) rows })
    (λ r same. same ∙ ap (λ (l : List (List Tid)). let u : TupleList = record { set = set; rows = l } in u) all) c.rows_of.ensures
