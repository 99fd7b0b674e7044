use Rattle.std.proofs.Common.{map}
use Rattle.std.proofs.lemmas.Result.{on_ok_weaker}
use Rattle.plan_tree.specs.work.Views.{path}
use Rattle.join_search.specs.work.Tables.{none, paths_at}
use Rattle.join_search.proofs.ItemLemmas.{cheapest-lent, contains-lent, none-lent}
use Rattle.join_search.proofs.MergeLemmas.{early-none, early-served, plain-early-later}
use Rattle.join_search.proofs.OfferLemmas.{takes-then}
use Rattle.join_search.proofs.merges.offer_early_sides.Goals as goal

pub offer_sort_if_early-requires-clause-inner : goal.offer_sort_if_early-requires-clause-inner
offer_sort_if_early-requires-clause-inner c = contains-lent c.args.inners.now (paths_at c.args.j.now.table.now c.args.j.now.inner none) c.in-Some.least.now c.requires.inners c.in-Some.ensures.is_there

pub returns-in-Some-clause-takes : goal.returns-in-Some-clause-takes
returns-in-Some-clause-takes c =
    takes-then c.args.j.now.cat.now c.args.j.now.q.now (paths_at c.args.j.now.table.now) c.args.j.now.set (map path c.args.front.now) (map path c.offer_early_plain.new.front) (map path c.offer_sort_if_early.new.front) c.offer_early_plain.ensures.takes c.offer_sort_if_early.ensures.takes

pub returns-in-Some-clause-served : goal.returns-in-Some-clause-served
returns-in-Some-clause-served c =
    let contents = c.args.j.now.cat.now in
    let q = c.args.j.now.q.now in
    let j = c.args.j.now in
    let by' = c.args.by.now in
    let outers = paths_at c.args.j.now.table.now j.outer none in
    let inners = paths_at c.args.j.now.table.now j.inner none in
    let p = c.in-Some.least.now in
    let middle = map path c.offer_early_plain.new.front in
    let after = map path c.offer_sort_if_early.new.front in
    on_ok_weaker c.offer_sort_if_early.result
    (early-served contents q c.args.j.now.asked after outers inners by' j.inner (path p) c.args.startup (c.requires.over.placed.paths j.inner none)
    (cheapest-lent c.args.inners.now inners p c.requires.inners c.in-Some.ensures.is_there c.in-Some.ensures.least)
    (plain-early-later contents q c.args.j.now.asked middle after outers inners by' c.args.startup c.offer_sort_if_early.ensures.takes.still c.in_ok-offer_early_plain.ensures.served))
    c.offer_sort_if_early.ensures.served

pub returns-in-None-clause-served : goal.returns-in-None-clause-served
returns-in-None-clause-served c =
    let inners = paths_at c.args.j.now.table.now c.args.j.now.inner none in
    early-none c.args.j.now.cat.now c.args.j.now.q.now c.args.j.now.asked (map path c.offer_early_plain.new.front) (paths_at c.args.j.now.table.now c.args.j.now.outer none) inners c.args.by.now c.args.startup (none-lent c.args.inners.now inners c.requires.inners c.in-None.ensures.none)
