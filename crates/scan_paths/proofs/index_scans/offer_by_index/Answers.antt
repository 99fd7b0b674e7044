use Rattle.std.proofs.Common.{◌∙◌, Bool, false, map, subst, sym}
use Rattle.std.proofs.lemmas.Bool.{true≢false}
use Rattle.std.proofs.lemmas.Result.{on_ok_weaker}
use Rattle.plan_tree.specs.work.Fronts.{IsServed}
use Rattle.plan_tree.specs.Space.{IsBuilt}
use Rattle.plan_tree.specs.work.Views.{path}
use Rattle.scan_paths.specs.work.Scans.{tree_by}
use Rattle.scan_paths.proofs.ReachLemmas.{none-served}
use Rattle.scan_paths.proofs.TakingLemmas.{either-way, served-later, takes-then}
use Rattle.scan_paths.proofs.index_scans.offer_by_index.Goals as goal

pub returns-then-not-is_in_space-clause-served : goal.returns-then-not-is_in_space-clause-served
returns-then-not-is_in_space-clause-served c =
    let s = c.args.s in
    let contents = c.args.cat.now in
    let q = c.args.q.now in
    none-served contents q s.rel s.index s.param (map path c.args.front.now)
    (λ scan. true≢false (sym (c.is_in_space.ensures.1 (subst (λ (only : Bool). IsBuilt contents q (tree_by only s.rel s.index false s.param)) (sym c.requires.fetching) scan)) ∙ c.if-not-is_in_space.true))

pub returns-clause-takes : goal.returns-clause-takes
returns-clause-takes c =
    takes-then c.args.cat.now c.args.q.now c.args.s.rel c.args.s.param (map path c.args.front.now) (map path c.offer_ways.new.front) (map path c.offer_kind.new.front) c.offer_ways.ensures.takes c.offer_kind.ensures.takes

pub returns-clause-served : goal.returns-clause-served
returns-clause-served c =
    let contents = c.args.cat.now in
    let q = c.args.q.now in
    let s = c.args.s in
    let after = map path c.offer_kind.new.front in
    on_ok_weaker c.offer_kind.result
    (λ second. either-way (λ only. (backward : Bool) → IsServed contents q after (tree_by only s.rel s.index backward s.param))
    (λ backward. served-later contents q (map path c.offer_ways.new.front) after (tree_by false s.rel s.index backward s.param) c.offer_kind.ensures.takes.still
    (subst (λ (only : Bool). IsServed contents q (map path c.offer_ways.new.front) (tree_by only s.rel s.index backward s.param)) c.requires.fetching (c.in_ok-offer_ways.ensures.served backward)))
    second)
    c.offer_kind.ensures.served
