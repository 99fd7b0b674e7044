use Rattle.std.proofs.Common.{map}
use Rattle.std.proofs.lemmas.Result.{on_ok_weaker}
use Rattle.plan_tree.specs.work.Views.{path}
use Rattle.join_search.specs.work.Merges.{side_plan}
use Rattle.join_search.specs.work.Tables.{none, paths_at}
use Rattle.join_search.proofs.MergeLemmas.{outers-served, plain-later}
use Rattle.join_search.proofs.OfferLemmas.{takes-then}
use Rattle.join_search.proofs.merges.offer_side.Goals as goal

pub returns-clause-takes : goal.returns-clause-takes
returns-clause-takes c =
    takes-then c.args.j.now.cat.now c.args.j.now.q.now (paths_at c.args.j.now.table.now) c.args.j.now.set (map path c.args.front.now) (map path c.offer_plain.new.front) (map path c.offer_sorted.new.front) c.offer_plain.ensures.takes c.offer_sorted.ensures.takes

pub returns-clause-served : goal.returns-clause-served
returns-clause-served c =
    let contents = c.args.j.now.cat.now in
    let q = c.args.j.now.q.now in
    let by' = c.args.by.now in
    let outers = paths_at c.args.j.now.table.now c.args.j.now.outer none in
    let i = side_plan by' c.args.inner in
    let middle = map path c.offer_plain.new.front in
    let after = map path c.offer_sorted.new.front in
    on_ok_weaker c.offer_sorted.result
    (outers-served contents q c.args.j.now.asked after outers by' c.args.j.now.outer i (c.requires.over.placed.paths c.args.j.now.outer none) (plain-later contents q c.args.j.now.asked middle after outers by' i c.offer_sorted.ensures.takes.still c.in_ok-offer_plain.ensures.served))
    c.offer_sorted.ensures.served
