-- The tuple joins the group that has its keys, or begins one behind the others.
use Rattle.std.proofs.Common.{List, ap, sym, subst, length, refl, ◌∙◌}
use Rattle.pg_value.specs.declared.value.Value.{Value}
use Rattle.group_values.specs.declared.shape.Call.{Call}
use Rattle.group_values.specs.Shapes.{GroupShape}
use Rattle.group_values.specs.work.Grouping.{Grouping}
use Rattle.group_values.specs.work.Listing.{IsListing}
use Rattle.group_values.specs.work.Places.{HasNoGroup, IsGroupOf}
use Rattle.group_values.proofs.PushLemmas.{begun-pushed, begun-whole, joined-pushed}
use Rattle.group_values.proofs.tuples.Groups.push.Goals as goal

pub join-requires-clause-listing : goal.join-requires-clause-listing
join-requires-clause-listing c =
    let calls = c.deref.ensures.value ∙ ap (λ (x : GroupShape). x.calls) c.shape.view_is in
    subst (λ (l : List Call). IsListing l c.self.inside.listing) (sym calls) c.self.invariant

pub invariant_of-self : goal.invariant_of-self
invariant_of-self c =
    let calls = c.deref.ensures.value ∙ ap (λ (x : GroupShape). x.calls) c.shape.view_is in
    subst (λ (l : List Call). IsListing l c.join.new.self) calls c.join.ensures.listing

pub invariant_of-self-in-None : goal.invariant_of-self-in-None
invariant_of-self-in-None c =
    let s = c.self.inside in
    let calls = c.deref-in-None.ensures.value ∙ ap (λ (x : GroupShape). x.calls) c.shape.view_is in
    let many = c.requires.args ∙ ap (λ (g : Grouping). length g.shape.calls) (sym c.self.view_is) in
    record {
      finds = c.add.ensures.finds;
      whole = begun-whole c.add.result c.deref-in-None.result.now s.shape.calls c.args.keys c.args.args c.in_ok-group-in-None.group s.listing.groups.items c.add.new.self.groups.items calls many c.self.invariant.whole c.in_ok-group-in-None.ensures c.add.ensures.added c.add.ensures.refused;
    }

pub returns-in-Some-clause-pushed : goal.returns-in-Some-clause-pushed
returns-in-Some-clause-pushed c =
    let s = c.self.inside in
    let calls = c.deref.ensures.value ∙ ap (λ (x : GroupShape). x.calls) c.shape.view_is in
    joined-pushed c.join.result c.args.self.now s.shape c.deref.result.now c.args.keys c.args.args s.listing.groups.items s.listing.groups.items c.join.new.self.groups.items c.in-Some.place
    (ap (λ (g : Grouping). g.shape) c.self.view_is) (ap (λ (g : Grouping). g.groups) c.self.view_is) calls refl (subst (λ (k : List Value). IsGroupOf s.listing.groups.items k c.in-Some.place) c.items.ensures c.in-Some.ensures.found) c.requires.keys c.requires.args c.join.ensures.room c.join.ensures.joined

pub returns-in_ok-group-in-None-clause-pushed : goal.returns-in_ok-group-in-None-clause-pushed
returns-in_ok-group-in-None-clause-pushed c =
    let s = c.self.inside in
    let calls = c.deref-in-None.ensures.value ∙ ap (λ (x : GroupShape). x.calls) c.shape.view_is in
    begun-pushed c.add.result c.args.self.now s.shape c.deref-in-None.result.now c.args.keys c.args.args c.in_ok-group-in-None.group s.listing.groups.items c.add.new.self.groups.items
    (ap (λ (g : Grouping). g.shape) c.self.view_is) (ap (λ (g : Grouping). g.groups) c.self.view_is) calls (subst (λ (k : List Value). HasNoGroup s.listing.groups.items k) c.items.ensures c.in-None.ensures.none) c.requires.keys c.requires.args c.in_ok-group-in-None.ensures c.add.ensures.added
