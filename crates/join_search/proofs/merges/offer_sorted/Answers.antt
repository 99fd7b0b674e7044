use Rattle.std.proofs.Common.{map}
use Rattle.std.proofs.lemmas.Bool.{true≢false}
use Rattle.std.proofs.lemmas.Result.{on_ok_weaker}
use Rattle.plan_tree.specs.work.Views.{path}
use Rattle.join_search.specs.work.Merges.{side_plan}
use Rattle.join_search.specs.work.Tables.{none, paths_at}
use Rattle.join_search.proofs.ItemLemmas.{cheapest-lent, contains-lent, none-lent}
use Rattle.join_search.proofs.MergeLemmas.{sorted-none, sorted-served}
use Rattle.join_search.proofs.OfferLemmas.{takes-none}
use Rattle.join_search.proofs.merges.offer_sorted.Goals as goal

pub offer_merge-requires-clause-outer : goal.offer_merge-requires-clause-outer
offer_merge-requires-clause-outer c = record {
  is_there = contains-lent c.args.outers.now (paths_at c.args.j.now.table.now c.args.j.now.outer none) c.in-Some.path.now c.requires.outers c.in-Some.ensures.is_there;
  begins = λ e. absurd (true≢false e);
}

pub returns-in-Some-clause-served : goal.returns-in-Some-clause-served
returns-in-Some-clause-served c =
    let a = c.args.j.now.outer in
    let ps = paths_at c.args.j.now.table.now a none in
    let p = c.in-Some.path.now in
    on_ok_weaker c.offer_merge.result
    (sorted-served c.args.j.now.cat.now c.args.j.now.q.now c.args.j.now.asked (map path c.offer_merge.new.front) ps c.args.by.now a (path p) (side_plan c.args.by.now c.args.inner) (c.requires.over.placed.paths a none)
    (cheapest-lent c.args.outers.now ps p c.requires.outers c.in-Some.ensures.is_there c.in-Some.ensures.least))
    c.offer_merge.ensures.served

pub returns-in-None-clause-takes : goal.returns-in-None-clause-takes
returns-in-None-clause-takes c = takes-none c.args.j.now.cat.now c.args.j.now.q.now (paths_at c.args.j.now.table.now) c.args.j.now.set (map path c.args.front.now) c.requires.joins

pub returns-in-None-clause-served : goal.returns-in-None-clause-served
returns-in-None-clause-served c =
    let ps = paths_at c.args.j.now.table.now c.args.j.now.outer none in
    sorted-none c.args.j.now.cat.now c.args.j.now.q.now c.args.j.now.asked (map path c.args.front.now) ps c.args.by.now (side_plan c.args.by.now c.args.inner) (none-lent c.args.outers.now ps c.requires.outers c.in-None.ensures.none)
