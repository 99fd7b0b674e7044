-- The values and their slots stay.
use Rattle.std.proofs.Common.{◌≡◌, List, map, length, ap, sym, subst, ◌∙◌}
use Rattle.std.proofs.lemmas.List.{with_items_is, length-map}
use Rattle.hash_index.specs.work.Chains.{AreChained}
use Rattle.hash_index.specs.work.Groups.{RowsOf, below, held_by}
use Rattle.hash_index.proofs.GroupLemmas.{below_held, below_value}
use Rattle.hash_index.proofs.SlotLemmas.{chained_kept}
use Rattle.hash_index.proofs.chains.Chains.cut.Goals as goal

pub returns : goal.returns
returns c =
    let s = c.args.self.now in
    let f = below c.args.rows in
    let is : c.cut_each.new.groups ≡ map f s.groups.items = c.cut_each.ensures ∙ ap (map f) c.deref_mut.ensures.value in
    let len : length c.cut_each.new.groups ≡ s.groups.len = ap (λ (l : List RowsOf). length l) c.cut_each.ensures ∙ length-map c.deref_mut.result.now f ∙ c.deref_mut.ensures.len in
    let items = with_items_is s.groups c.cut_each.new.groups len ∙ is in
    record {
      chained = subst (λ l. AreChained c.args.key s.heads.items l s.links) (sym items) (chained_kept c.args.key s.heads.items s.groups.items (map f s.groups.items) s.links c.requires (length-map s.groups.items f) (below_value c.args.rows s.groups.items));
      kept = ap held_by items ∙ below_held c.args.rows s.groups.items;
    }
