-- What the list has is what the slice that was lent has.
use Rattle.std.proofs.Common.{◌≡◌, length, refl, sym, subst, arith}
use Rattle.std.proofs.lemmas.List.{with_items_is}
use Rattle.group_values.specs.work.Steps.{AreWhole}
use Rattle.group_values.specs.work.Listing.{HasNoted}
use Rattle.group_values.proofs.PushLemmas.{joined-finds, joined-whole}
use Rattle.group_values.proofs.listing.Listing.join.Goals as goal

pub returns-clause-listing : goal.returns-clause-listing
returns-clause-listing c =
    let s = c.args.self.now in
    let new = c.join_at.new.groups in
    let calls = c.args.calls.now in
    let lent = c.deref_mut.result.now in
    let len : length new ≡ s.groups.len = omega (arith, c.join_at.auto.groups, c.deref_mut.ensures.len) in
    let is = with_items_is s.groups new len in
    record {
      finds = subst (HasNoted s.finder) (sym is) (joined-finds c.join_at.result s.finder calls calls c.args.args lent s.groups.items new c.args.place refl c.deref_mut.ensures.value c.requires.place c.requires.listing.finds c.join_at.ensures.joined c.join_at.ensures.refused);
      whole = subst (AreWhole calls) (sym is) (joined-whole c.join_at.result calls calls c.args.args lent s.groups.items new c.args.place refl c.deref_mut.ensures.value c.requires.place c.requires.args c.requires.listing.whole c.join_at.ensures.joined c.join_at.ensures.refused);
    }
