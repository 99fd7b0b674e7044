use Rattle.std.proofs.Common.{◌≡◌, ◌∷◌, ◌++◌, [], List, arith, rules, subst, sym}
use Rattle.std.specs.Prelude.{Contains}
use Rattle.std.proofs.lemmas.Grind.{common_steps}
use Rattle.std.proofs.lemmas.List.Elements.{Contains-append_left, Contains-push}
use Rattle.std.specs.Vec.Iter.{into_iter_items}
use Rattle.plan_tree.specs.declared.path.Path.{Path as Costed}
use Rattle.kept_paths.proofs.PlaceLemmas.{covered-more, some-more}
use Rattle.kept_paths.proofs.kept.front_of.Goals as goal

pub loop-made-preserved : goal.loop-made-preserved
loop-made-preserved c =
    let drawn = c.loop-made.yielded ++ c.in-Some.made ∷ [] in
    let whole : c.args.paths.items ≡ drawn ++ into_iter_items c.next.new.self = first_of (search rules, grind (arith, common_steps)) in
    let there = subst (λ (xs : List Costed). Contains xs c.in-Some.made) (sym whole)
    (Contains-append_left drawn (into_iter_items c.next.new.self) c.in-Some.made (Contains-push c.loop-made.yielded c.in-Some.made)) in
    record {
      some = some-more c.args.paths.items c.loop-made.front c.offer_to.new.front c.in-Some.made c.in_ok-offer_to.ensures.kept c.loop-made.invariant.some there;
      covered = covered-more c.loop-made.front c.offer_to.new.front c.loop-made.yielded c.in-Some.made c.in_ok-offer_to.ensures.covered c.in_ok-offer_to.ensures.offered c.loop-made.invariant.covered;
      whole = whole;
    }
