use Rattle.std.proofs.Common.{List, Bor, length, map, ap, ap₂, ◌∙◌}
use Rattle.std.specs.Ordering.{ordering_then}
use Rattle.pg_value.specs.declared.value.Value.{Value}
use Rattle.sort_rows.specs.work.Columns.{columns_order}
use Rattle.sort_rows.specs.work.Keyed.{key_in}
use Rattle.sort_rows.proofs.ListLemmas.{run-map}
use Rattle.sort_rows.proofs.sort.compare_keyed.Goals as goal

abbrev value : Bor Value → Value
value v = v.now

pub returns-in-Equal : goal.returns-in-Equal
returns-in-Equal c =
    let cs = c.args.columns.now in
    let keys = map value c.args.keys.now in
    c.compare_keys.ensures
    ∙ ap₂ (λ (l r : List (Bor Value)). columns_order cs (map value l) (map value r)) c.key_at_place-left.ensures c.key_at_place-right.ensures
    ∙ ap₂ (columns_order cs) (run-map value c.args.keys.now (length cs) c.args.a.place) (run-map value c.args.keys.now (length cs) c.args.b.place)
    ∙ ap (λ o. ordering_then o (columns_order cs (key_in cs keys c.args.a) (key_in cs keys c.args.b))) c.in-Equal.ensures
