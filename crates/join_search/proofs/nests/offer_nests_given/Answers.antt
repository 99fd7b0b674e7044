use Rattle.std.proofs.Common.{map}
use Rattle.std.proofs.lemmas.Result.{on_ok_weaker}
use Rattle.plan_tree.specs.work.Views.{path}
use Rattle.join_search.specs.work.Tables.{none, paths_at}
use Rattle.join_search.proofs.ItemLemmas.{cheapest-lent, contains-lent, none-lent}
use Rattle.join_search.proofs.NestLemmas.{each-later, nests-none, nests-served}
use Rattle.join_search.proofs.OfferLemmas.{takes-none, takes-then}
use Rattle.join_search.proofs.nests.offer_nests_given.Goals as goal

pub offer_nests_of-requires-clause-inner : goal.offer_nests_of-requires-clause-inner
offer_nests_of-requires-clause-inner c =
    contains-lent c.args.inners.now (paths_at c.args.j.now.table.now c.args.j.now.inner c.args.p) c.in-Some.least.now c.requires.inners c.in-Some.ensures.is_there

pub returns-in_ok-offer_nests_of-in-Some-clause-takes : goal.returns-in_ok-offer_nests_of-in-Some-clause-takes
returns-in_ok-offer_nests_of-in-Some-clause-takes c =
    takes-then c.args.j.now.cat.now c.args.j.now.q.now (paths_at c.args.j.now.table.now) c.args.j.now.set (map path c.args.front.now) (map path c.offer_nests_of.new.front) (map path c.offer_early.new.front) c.offer_nests_of.ensures.takes c.offer_early.ensures.takes

pub returns-in_ok-offer_nests_of-in-Some-clause-served : goal.returns-in_ok-offer_nests_of-in-Some-clause-served
returns-in_ok-offer_nests_of-in-Some-clause-served c =
    let contents = c.args.j.now.cat.now in
    let q = c.args.j.now.q.now in
    let j = c.args.j.now in
    let fronts = paths_at c.args.j.now.table.now in
    let i = c.in-Some.least.now in
    let middle = map path c.offer_nests_of.new.front in
    let after = map path c.offer_early.new.front in
    on_ok_weaker c.offer_early.result
    (nests-served contents q c.args.j.now.asked after (fronts j.outer none) (fronts j.inner c.args.p) j.inner c.args.p (path i) (c.requires.over.placed.paths j.inner c.args.p)
    (cheapest-lent c.args.inners.now (fronts j.inner c.args.p) i c.requires.inners c.in-Some.ensures.is_there c.in-Some.ensures.least)
    (each-later contents q c.args.j.now.asked middle after (fronts j.outer none) (path i).tree c.offer_early.ensures.takes.still c.in_ok-offer_nests_of-in-Some.ensures.served))
    c.offer_early.ensures.served

pub returns-in-None-clause-takes : goal.returns-in-None-clause-takes
returns-in-None-clause-takes c = takes-none c.args.j.now.cat.now c.args.j.now.q.now (paths_at c.args.j.now.table.now) c.args.j.now.set (map path c.args.front.now) c.requires.joins

pub returns-in-None-clause-served : goal.returns-in-None-clause-served
returns-in-None-clause-served c =
    let j = c.args.j.now in
    let fronts = paths_at c.args.j.now.table.now in
    nests-none c.args.j.now.cat.now c.args.j.now.q.now c.args.j.now.asked (map path c.args.front.now) (fronts j.outer none) (fronts j.inner c.args.p) (none-lent c.args.inners.now (fronts j.inner c.args.p) c.requires.inners c.in-None.ensures.none)

pub returns-then-are_nests_past-clause-takes : goal.returns-then-are_nests_past-clause-takes
returns-then-are_nests_past-clause-takes c = takes-none c.args.j.now.cat.now c.args.j.now.q.now (paths_at c.args.j.now.table.now) c.args.j.now.set (map path c.args.front.now) c.requires.joins

pub returns-then-are_nests_past-clause-served : goal.returns-then-are_nests_past-clause-served
returns-then-are_nests_past-clause-served c = c.are_nests_past.ensures c.if-are_nests_past.true (map path c.args.front.now)
