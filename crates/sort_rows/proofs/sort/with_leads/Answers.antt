use Rattle.std.proofs.Common.{rules, subst, ◌∷◌, ◌++◌, ◌∙◌, [], List, Bor, map, length, slice_index_or, sym, ap, arith}
use Rattle.std.proofs.lemmas.List.{map_push, take_more}
use mir.Syntax.{w64}
use mir.Val.{SFits, of_z, to_z}
use Rattle.std.proofs.lemmas.Int.{to_z-of_z}
use Rattle.std.proofs.lemmas.List.Elements.{All-push}
use Rattle.pg_base.specs.declared.numbers.Tid.{Tid}
use Rattle.pg_value.specs.declared.value.Value.{Value}
use Rattle.sort_rows.specs.declared.sort.Keyed.{Keyed}
use Rattle.sort_rows.specs.work.Keyed.{rows_keyed, AreKeyed, IsKeyed}
use Rattle.sort_rows.specs.work.Leads.{key_lead}
use Rattle.sort_rows.proofs.ListLemmas.{run-map}
use Rattle.sort_rows.proofs.sort.with_leads.Goals as goal

abbrev value : Bor Value → Value
value v = v.now

pub loop-place-preserved : goal.loop-place-preserved
loop-place-preserved c =
    let columns = c.args.columns.now in
    let rows = c.args.input.now.rows in
    let keys = map value c.args.keys.now in
    let fits : SFits w64 c.key_lead-lead.result = search rules in
    let one : Keyed = record { lead = to_z w64 (of_z w64 c.key_lead-lead.result); place = c.loop-place.place } in
    let is : IsKeyed columns keys (length rows) one = record {
      within = omega arith;
      lead = to_z-of_z w64 c.key_lead-lead.result fits ∙ c.key_lead-lead.ensures ∙ ap (λ (vs : List (Bor Value)). key_lead columns (map value vs)) c.key_at_place.ensures
          ∙ ap (key_lead columns) (run-map value c.args.keys.now (length columns) c.loop-place.place);
    } in
    record {
      rows = ap (rows_keyed rows) c.in_ok-push.ensures.items
          ∙ map_push (λ (k : Keyed). slice_index_or rows k.place []) c.loop-place.items.items one
          ∙ ap (λ (l : List (List Tid)). l ++ slice_index_or rows c.loop-place.place [] ∷ []) c.loop-place.invariant.rows
          ∙ sym (take_more rows c.loop-place.place [] (omega arith));
      keys = subst (λ (ks : List Keyed). AreKeyed columns keys (length rows) ks) (sym c.in_ok-push.ensures.items)
          (All-push (IsKeyed columns keys (length rows)) c.loop-place.items.items one c.loop-place.invariant.keys is);
    }
