-- The last place is taken out first.
use Rattle.std.proofs.Common.{◌<◌, ap, sym, length, ◌∙◌, arith}
use Rattle.std.proofs.lemmas.List.{nil_from_length}
use Rattle.hash_index.specs.declared.chains.Place.{Place}
use Rattle.hash_index.specs.work.Chains.{taken_back}
use Rattle.hash_index.proofs.GroupLemmas.{without_many}
use Rattle.hash_index.proofs.PlaceLemmas.{last_in, taken_push, within_more}
use Rattle.hash_index.proofs.index.take_back.Goals as goal

pub take_out-requires : goal.take_out-requires
take_out-requires c =
    (last_in (λ (p : Place). p.slot < length c.loop-place.chains.groups.items) c.loop-place.places.items c.pop.new.self.items c.in-Some.place c.in-Some.ensures.items c.loop-place.invariant.0).0

pub loop-place-preserved : goal.loop-place-preserved
loop-place-preserved c =
    let gs = c.loop-place.chains.groups.items in
    let new = c.take_out.new.self.groups.items in
    let p = c.in-Some.place in
    let ps = c.pop.new.self.items in
    let many = ap (λ l. length l) c.take_out.ensures.groups ∙ without_many gs p.slot p.at in (
      within_more gs new ps (omega (arith, many)) (last_in (λ (q : Place). q.slot < length gs) c.loop-place.places.items ps p c.in-Some.ensures.items c.loop-place.invariant.0).1,
      ap (taken_back ps) c.take_out.ensures.groups ∙ sym (taken_push gs ps p) ∙ ap (λ l. taken_back l gs) (sym c.in-Some.ensures.items) ∙ c.loop-place.invariant.1,
      c.take_out.ensures.heads ∙ c.loop-place.invariant.2,
      c.take_out.ensures.links ∙ c.loop-place.invariant.3,
    )

pub returns-clause-groups : goal.returns-clause-groups
returns-clause-groups c = ap (λ l. taken_back l c.loop-place.chains.groups.items) (sym (nil_from_length c.loop-place.places.items (omega (arith, c.in_default.ensures.cases.0)))) ∙ c.loop-place.invariant.1
