use Rattle.std.proofs.Common.{◌++◌, [], List, sym, ap, ap₂, ◌∙◌, arith}
use Rattle.std.proofs.lemmas.Option.{get_or_from_slice_get}
use Rattle.pg_base.specs.declared.numbers.Tid.{Tid}
use Rattle.pg_value.specs.declared.value.Value.{Value}
use Rattle.heap.specs.Tuples.{relation_count}
use Rattle.sort_rows.specs.work.KeySource.{key_of}
use Rattle.sort_rows.proofs.ListLemmas.{flat_map-more}
use Rattle.sort_rows.proofs.sort.read_keys.Goals as goal

pub loop-n-preserved : goal.loop-n-preserved
loop-n-preserved g c =
    let key = key_of c.args.at.now in
    let rows = c.args.input.now.rows in
    record {
      keys = c.in_ok-add_key.ensures.key
          ∙ ap₂ (λ (l : List Value) (r : List Tid). l ++ key r) c.loop-n.invariant.keys (sym (get_or_from_slice_get rows c.loop-n.n c.get.result.now [] c.get.ensures.row))
          ∙ sym (flat_map-more key rows c.loop-n.n [] (omega arith));
      reads = omega (arith, c.loop-n.invariant.reads, c.add_key.ensures.cost, ap relation_count c.requires.set);
    }
