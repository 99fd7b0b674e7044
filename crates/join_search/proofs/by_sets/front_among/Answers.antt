use Rattle.std.proofs.Common.{◌≡◌, ◌∷◌, ◌++◌, [], List, map, arith, rules, subst, sym}
use Rattle.std.specs.Prelude.{All, Contains}
use Rattle.std.proofs.lemmas.Grind.{common_steps}
use Rattle.std.proofs.lemmas.List.Elements.{Contains-append_left, Contains-push}
use Rattle.std.specs.Vec.Iter.{into_iter_items}
use Rattle.plan_tree.specs.declared.path.Path.{Path as Costed}
use Rattle.plan_tree.specs.work.Views.{path}
use Rattle.join_search.specs.work.Sufficing.{HasSufficient}
use Rattle.join_search.proofs.FrontingLemmas.{among-enough, among-some, among-undominated, enough-more, item-at, some-at, some-more}
use Rattle.join_search.proofs.by_sets.front_among.Goals as goal

pub keep-requires-clause-paths : goal.keep-requires-clause-paths
keep-requires-clause-paths c = some-at c.args.at.now.cat.now c.args.at.now.q.now c.args.at.now.asked c.args.at.now.set c.args.paths.items c.requires.paths c.loop-made.kept c.loop-made.invariant.some

pub keep-requires-clause-made : goal.keep-requires-clause-made
keep-requires-clause-made c =
    let drawn = c.loop-made.yielded ++ c.in-Some.made ∷ [] in
    let whole : c.args.paths.items ≡ drawn ++ into_iter_items c.next.new.self = first_of (search rules, grind (arith, common_steps)) in
    item-at c.args.at.now.cat.now c.args.at.now.q.now c.args.at.now.asked c.args.at.now.set c.args.paths.items c.requires.paths c.in-Some.made
    (subst (λ (xs : List Costed). Contains xs c.in-Some.made) (sym whole) (Contains-append_left drawn (into_iter_items c.next.new.self) c.in-Some.made (Contains-push c.loop-made.yielded c.in-Some.made)))

pub loop-made-preserved : goal.loop-made-preserved
loop-made-preserved c =
    let contents = c.args.at.now.cat.now in
    let q = c.args.at.now.q.now in
    let items = c.args.paths.items in
    let drawn = c.loop-made.yielded ++ c.in-Some.made ∷ [] in
    let whole : items ≡ drawn ++ into_iter_items c.next.new.self = first_of (search rules, grind (arith, common_steps)) in
    let there = subst (λ (xs : List Costed). Contains xs c.in-Some.made) (sym whole) (Contains-append_left drawn (into_iter_items c.next.new.self) c.in-Some.made (Contains-push c.loop-made.yielded c.in-Some.made)) in
    record {
      some = some-more contents q c.args.at.now.asked c.args.at.now.set items c.requires.paths c.loop-made.kept c.keep.new.kept c.in-Some.made c.keep.ensures.some c.loop-made.invariant.some there;
      enough = enough-more contents q c.args.at.now.asked c.args.at.now.set items c.requires.paths c.loop-made.yielded c.loop-made.kept c.keep.new.kept c.in-Some.made c.keep.ensures.still c.loop-made.invariant.enough c.in_ok-keep.ensures.enough;
      whole = whole;
    }

pub returns-clause-some : goal.returns-clause-some
returns-clause-some c =
    let all : c.args.paths.items ≡ c.loop-made.yielded = first_of (search rules, grind (arith, common_steps)) in
    let enough = subst (λ (xs : List Costed). All (λ x. HasSufficient c.args.at.now.cat.now c.args.at.now.q.now c.args.at.now.asked (map path c.loop-made.kept) (path x).tree) xs) (sym all) c.loop-made.invariant.enough in
    among-some c.args.at.now.cat.now c.args.at.now.q.now c.args.at.now.asked c.args.at.now.set c.args.paths.items c.requires.paths c.loop-made.kept c.in_ok-front.front c.loop-made.invariant.some enough c.in_ok-front.ensures.some c.in_ok-front.ensures.covered

pub returns-clause-enough : goal.returns-clause-enough
returns-clause-enough c =
    let all : c.args.paths.items ≡ c.loop-made.yielded = first_of (search rules, grind (arith, common_steps)) in
    let enough = subst (λ (xs : List Costed). All (λ x. HasSufficient c.args.at.now.cat.now c.args.at.now.q.now c.args.at.now.asked (map path c.loop-made.kept) (path x).tree) xs) (sym all) c.loop-made.invariant.enough in
    among-enough c.args.at.now.cat.now c.args.at.now.q.now c.args.at.now.asked c.args.at.now.set c.args.paths.items c.requires.paths c.loop-made.kept c.in_ok-front.front c.loop-made.invariant.some enough c.in_ok-front.ensures.some c.in_ok-front.ensures.covered

pub returns-clause-undominated : goal.returns-clause-undominated
returns-clause-undominated c =
    let all : c.args.paths.items ≡ c.loop-made.yielded = first_of (search rules, grind (arith, common_steps)) in
    let enough = subst (λ (xs : List Costed). All (λ x. HasSufficient c.args.at.now.cat.now c.args.at.now.q.now c.args.at.now.asked (map path c.loop-made.kept) (path x).tree) xs) (sym all) c.loop-made.invariant.enough in
    among-undominated c.args.at.now.cat.now c.args.at.now.q.now c.args.at.now.asked c.args.at.now.set c.args.paths.items c.requires.paths c.loop-made.kept c.in_ok-front.front c.loop-made.invariant.some enough c.in_ok-front.ensures.some c.in_ok-front.ensures.covered c.items-paths.ensures.undominated
