use Rattle.std.proofs.Common.{◌∙◌, map, arith, subst, sym}
use Rattle.std.specs.Prelude.{All, Contains, List}
use Rattle.pathkeys.specs.Keys.{Keys}
use Rattle.pg_base.specs.Sets.{has}
use Rattle.plan_tree.specs.Space.{IsMergeList}
use Rattle.plan_tree.specs.work.Views.{path}
use Rattle.join_search.specs.work.Offers.{AreMergesServed}
use Rattle.join_search.specs.work.Tables.{none, paths_at}
use Rattle.join_search.proofs.ItemLemmas.{all-at, all-more, all-taken, empty-lent}
use Rattle.join_search.proofs.MergeLemmas.{merges-all, merges-later, merges-none}
use Rattle.join_search.proofs.OfferLemmas.{takes-none, takes-then}
use Rattle.join_search.proofs.merges.offer_merges.Goals as goal

pub loop-by-init : goal.loop-by-init
loop-by-init c = record {
  takes = takes-none c.args.j.now.cat.now c.args.j.now.q.now (paths_at c.args.j.now.table.now) c.args.j.now.set (map path c.args.front.now) c.requires.joins;
  served = λ k d lt. absurd (omega (arith, lt));
}

pub offer_merges_by-requires-clause-list : goal.offer_merges_by-requires-clause-list
offer_merges_by-requires-clause-list c =
    all-at (IsMergeList c.args.j.now.cat.now c.args.j.now.q.now (has c.args.j.now.outer.0) (has c.args.j.now.inner.0)) c.deref-by-items.result.now c.loop-by.by-index c.by-item.result c.loop-by-test.true c.by-item.is
    (subst (All (IsMergeList c.args.j.now.cat.now c.args.j.now.q.now (has c.args.j.now.outer.0) (has c.args.j.now.inner.0))) (sym c.deref-by-items.ensures.value) c.in_ok-lists.ensures.sound)

pub loop-by-preserved : goal.loop-by-preserved
loop-by-preserved c =
    let contents = c.args.j.now.cat.now in
    let q = c.args.j.now.q.now in
    let j = c.args.j.now in
    let fronts = paths_at c.args.j.now.table.now in
    let before = map path c.loop-by.front in
    let after = map path c.offer_merges_by.new.front in
    let taken = c.offer_merges_by.ensures.takes in
    record {
      takes = takes-then contents q fronts j.set (map path c.args.front.now) before after c.loop-by.invariant.takes taken;
      served = all-more (AreMergesServed contents q c.args.j.now.asked before (fronts j.outer none) (fronts j.inner none)) (AreMergesServed contents q c.args.j.now.asked after (fronts j.outer none) (fronts j.inner none))
          (λ keys h. merges-later contents q c.args.j.now.asked before after (fronts j.outer none) (fronts j.inner none) keys taken.still h) c.deref-by-items.result.now c.loop-by.by-index c.by-item.result c.loop-by-test.true c.by-item.is c.loop-by.invariant.served c.in_ok-offer_merges_by.ensures.served;
    }

pub returns-in_err-lists-clause-takes : goal.returns-in_err-lists-clause-takes
returns-in_err-lists-clause-takes c = takes-none c.args.j.now.cat.now c.args.j.now.q.now (paths_at c.args.j.now.table.now) c.args.j.now.set (map path c.args.front.now) c.requires.joins

pub returns-in_err-offer_merges_by-clause-takes : goal.returns-in_err-offer_merges_by-clause-takes
returns-in_err-offer_merges_by-clause-takes c =
    takes-then c.args.j.now.cat.now c.args.j.now.q.now (paths_at c.args.j.now.table.now) c.args.j.now.set (map path c.args.front.now) (map path c.loop-by.front) (map path c.offer_merges_by.new.front) c.loop-by.invariant.takes c.offer_merges_by.ensures.takes

pub returns-clause-served : goal.returns-clause-served
returns-clause-served c =
    let j = c.args.j.now in
    let fronts = paths_at c.args.j.now.table.now in
    merges-all c.args.j.now.cat.now c.args.j.now.q.now c.args.j.now.asked (map path c.loop-by.front) (fronts j.outer none) (fronts j.inner none) j.outer j.inner c.deref-by-items.result.now (c.requires.over.placed.paths j.outer none) (c.requires.over.placed.paths j.inner none)
    (λ keys is. subst (λ (ls : List Keys). Contains ls keys) (sym c.deref-by-items.ensures.value) (c.in_ok-lists.ensures.complete keys is))
    (all-taken (AreMergesServed c.args.j.now.cat.now c.args.j.now.q.now c.args.j.now.asked (map path c.loop-by.front) (fronts j.outer none) (fronts j.inner none)) c.deref-by-items.result.now c.loop-by.by-index c.loop-by-test.false c.loop-by.invariant.served)

pub returns-then-is_empty-clause-takes : goal.returns-then-is_empty-clause-takes
returns-then-is_empty-clause-takes c =
    let j = c.args.j.now in
    takes-none j.cat.now j.q.now (paths_at j.table.now) j.set (map path c.args.front.now) c.requires.joins

pub returns-then-is_empty-clause-served : goal.returns-then-is_empty-clause-served
returns-then-is_empty-clause-served c =
    let j = c.args.j.now in
    let fronts = paths_at j.table.now in
    λ by'. merges-none j.cat.now j.q.now j.asked (map path c.args.front.now) (fronts j.outer none) (fronts j.inner none) by'
    (empty-lent j.inners.now (fronts j.inner none) c.requires.over.inners (sym c.is_empty.ensures ∙ c.if-is_empty.true))

pub returns-then-are_merges_past-clause-takes : goal.returns-then-are_merges_past-clause-takes
returns-then-are_merges_past-clause-takes c =
    let j = c.args.j.now in
    takes-none j.cat.now j.q.now (paths_at j.table.now) j.set (map path c.args.front.now) c.requires.joins

pub returns-then-are_merges_past-clause-served : goal.returns-then-are_merges_past-clause-served
returns-then-are_merges_past-clause-served c = c.are_merges_past.ensures c.if-are_merges_past.true (map path c.args.front.now)
