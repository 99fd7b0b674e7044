-- The new slot stands behind its bucket's, and the others as before.
use Rattle.std.proofs.Common.{ap, sym, ◌∙◌}
use Rattle.hash_index.proofs.GroupLemmas.{wider_on, wider_push}
use Rattle.hash_index.proofs.SlotLemmas.{value_added}
use Rattle.hash_index.proofs.chains.Chains.add_value.Goals as goal

pub returns-clause-chained : goal.returns-clause-chained
returns-clause-chained c =
    let m = c.make_room.new.self in
    let a = c.add_slot.new.self in
    let p = c.put_under_bucket.new.self in
    value_added c.args.key m.heads.items a.heads.items p.heads.items m.groups.items a.groups.items p.groups.items m.links a.links p.links c.args.v c.in_ok-slot.slot
    c.make_room.ensures.chained c.requires.known c.requires.fits (λ s e. c.requires.none s (sym (c.make_room.ensures.values s) ∙ e))
    c.in_ok-slot.ensures.groups c.in_ok-slot.ensures.links c.in_ok-slot.ensures.slot (ap (λ h. h.items) c.add_slot.ensures.heads) (ap (λ h. h.items) c.put_under_bucket.ensures.heads) (ap (λ g. g.items) c.put_under_bucket.ensures.groups)
    c.put_under_bucket.ensures.slots c.put_under_bucket.ensures.put c.put_under_bucket.ensures.kept

pub returns-clause-wider : goal.returns-clause-wider
returns-clause-wider c =
    let m = c.make_room.new.self in
    let a = c.add_slot.new.self in
    let p = c.put_under_bucket.new.self in
    wider_on c.args.self.now.groups.items m.groups.items p.groups.items c.make_room.ensures.wider (wider_push m.groups.items p.groups.items c.args.v (ap (λ g. g.items) c.put_under_bucket.ensures.groups ∙ c.in_ok-slot.ensures.groups))
