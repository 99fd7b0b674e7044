use Rattle.std.proofs.Common.{◌∷◌, ◌++◌, [], List, Bor, map, ap, ◌∙◌, take, refl}
use Rattle.std.proofs.lemmas.List.{append_assoc, map_push}
use Rattle.pg_value.specs.declared.value.Value.{Value}
use Rattle.sql_query.specs.Tuples.{value_at}
use Rattle.sort_rows.specs.work.Columns.{key_at}
use Rattle.sort_rows.specs.work.KeySource.{world_of}
use Rattle.sort_rows.specs.work.Rows.{tuple_of}
use Rattle.sort_rows.proofs.RowLemmas.{key_within, key_next}
use Rattle.sort_rows.proofs.keys.add_key.Goals as goal

abbrev value : Bor Value → Value
value v = v.now

pub value_in-requires : goal.value_in-requires
value_in-requires g c =
    let at = c.args.at.now in
    key_within (world_of at) at.q.now at.set c.args.tuple.now c.tuple_rows.new.rows.items c.in_ok-tuple_rows.ensures.rows at.columns.now c.requires.source.columns c.requires.source.few c.loop-column.column-index _ c.loop-column-test.true
    _ c.index.result.now c.index.ensures

pub loop-column-preserved : goal.loop-column-preserved
loop-column-preserved g c =
    let at = c.args.at.now in
    let before = key_at (take c.loop-column.column-index at.columns.now) (value_at (world_of at) at.q.now (tuple_of at.q.now at.set c.args.tuple.now)) in
    ap (map value) c.in_ok-push.ensures.items
    ∙ map_push value c.loop-column.keys.items c.value_in.result
    ∙ ap (λ (l : List Value). l ++ c.value_in.result.now ∷ []) c.loop-column.invariant
    ∙ append_assoc (map value c.args.keys.now.items) before (c.value_in.result.now ∷ [])
    ∙ ap (λ (l : List Value). map value c.args.keys.now.items ++ l)
    (key_next (world_of at) at.q.now at.set c.args.tuple.now c.tuple_rows.new.rows.items c.in_ok-tuple_rows.ensures.rows at.columns.now c.requires.source.columns c.requires.source.few c.loop-column.column-index _ c.loop-column-test.true
    _ c.index.result.now c.value_in.result.now before c.index.ensures c.value_in.ensures refl)
