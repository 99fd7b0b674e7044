-- After each row all those put in can be taken out again.
use Rattle.std.proofs.Common.{◌∷◌, ap, sym, subst, ◌∙◌}
use Rattle.hash_index.specs.work.Chains.{IsWider, taken_back}
use Rattle.hash_index.specs.work.Groups.{held_by, without_at}
use Rattle.hash_index.specs.work.Held.{Held}
use Rattle.hash_index.proofs.GroupLemmas.{without_many, without_value}
use Rattle.hash_index.proofs.PlaceLemmas.{one_added, refused_back}
use Rattle.hash_index.proofs.SlotLemmas.{chained_kept, chained_same}
use Rattle.hash_index.proofs.index.put_all.Goals as goal

pub returns-in_err-place-clause-back : goal.returns-in_err-place-clause-back
returns-in_err-place-clause-back c =
    refused_back c.args.key c.args.chains.now.groups.items c.args.added.items c.loop-row.row-iterator.rest.items c.loop-row.places.items c.loop-row.chains.groups.items c.put.new.self.groups.items c.loop-row.invariant.0 c.in_err-place.ensures.refused

pub returns-then-is_err-clause-chained : goal.returns-then-is_err-clause-chained
returns-then-is_err-clause-chained c =
    let p = c.put.new.self in
    let t = c.take_out.new.self in
    let at = c.in_ok-place.place in
    chained_same c.args.key p.heads.items t.heads.items (without_at at.slot at.at p.groups.items) t.groups.items p.links t.links
    (chained_kept c.args.key p.heads.items p.groups.items (without_at at.slot at.at p.groups.items) p.links c.put.ensures.chained (without_many p.groups.items at.slot at.at) (without_value p.groups.items at.slot at.at))
    (ap (λ h. h.items) c.take_out.ensures.heads) c.take_out.ensures.groups c.take_out.ensures.links

pub returns-then-is_err-clause-back : goal.returns-then-is_err-clause-back
returns-then-is_err-clause-back c =
    let t = c.take_out.new.self.groups.items in
    let now = c.loop-row.chains.groups.items in
    ap (λ l. held_by (taken_back l t)) (rw c.if-is_err.ensures.negation at c.push.ensures.items)
    ∙ refused_back c.args.key c.args.chains.now.groups.items c.args.added.items c.loop-row.row-iterator.rest.items c.loop-row.places.items now t c.loop-row.invariant.0 (subst (λ l. IsWider now l) (sym c.take_out.ensures.groups) c.in_ok-place.ensures.back)

pub loop-row-preserved : goal.loop-row-preserved
loop-row-preserved c =
    let h : Held = record { value = c.into_parts-value.result.0; row = c.into_parts-value.result.1.0 } in
    let left = c.next.new.self.rest.items in (
      one_added c.args.key c.loop-row.invariant.1.hashes c.args.chains.now.groups.items c.args.added.items c.loop-row.row-iterator.rest.items left c.loop-row.places.items c.push.new.self.items c.loop-row.chains.groups.items c.put.new.self.groups.items h c.in_ok-place.place
          c.loop-row.invariant.0 (c.in-Some.ensures.steps.0 ∙ ap (λ x. x ∷ left) (sym c.into_parts-value.ensures)) c.loop-row.invariant.1.fits c.in_ok-place.ensures.put c.in_ok-place.ensures.back c.in_ok-place.ensures.within (rw c.if-is_err.ensures.negation at c.push.ensures.items),
      c.put.ensures.chained,
    )
