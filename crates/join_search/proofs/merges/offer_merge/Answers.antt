use Rattle.std.proofs.Common.{◌∙◌, ap, map, refl, sym, subst}
use Rattle.std.proofs.lemmas.Result.{on_ok_weaker}
use Rattle.pg_base.specs.Sets.{has}
use Rattle.plan_tree.specs.work.Fronts.{HasDominating}
use Rattle.plan_tree.specs.Keys.{keys_of}
use Rattle.plan_tree.specs.work.Views.{path}
use Rattle.join_search.specs.work.Joins.{IsJoinOfKept}
use Rattle.join_search.specs.work.Merges.{merge_of, side_path}
use Rattle.join_search.specs.work.Splits.{IsJoinOf, kept_of}
use Rattle.join_search.specs.work.Tables.{paths_at}
use Rattle.join_search.proofs.KeyLemmas.{AreClasses, side-classes}
use Rattle.join_search.proofs.MergeLemmas.{merge-exact, merge-least, side-at, sides-keys, sides-kept, sides-plan}
use Rattle.join_search.proofs.OfferLemmas.{at-most-same, dominating-serves, joins-there}
use Rattle.join_search.proofs.merges.offer_merge.Goals as goal

pub merge_kept-least-requires-clause-outer : goal.merge_kept-least-requires-clause-outer
merge_kept-least-requires-clause-outer c = side-at c.args.j.now c.requires.over c.args.by.now c.args.j.now.outer c.args.outer c.requires.outer

pub merge_kept-least-requires-clause-inner : goal.merge_kept-least-requires-clause-inner
merge_kept-least-requires-clause-inner c = side-at c.args.j.now c.requires.over c.args.by.now c.args.j.now.inner c.args.inner c.requires.inner

pub merge_kept-cost-requires-clause-outer : goal.merge_kept-cost-requires-clause-outer
merge_kept-cost-requires-clause-outer c = side-at c.args.j.now c.requires.over c.args.by.now c.args.j.now.outer c.args.outer c.requires.outer

pub merge_kept-cost-requires-clause-inner : goal.merge_kept-cost-requires-clause-inner
merge_kept-cost-requires-clause-inner c = side-at c.args.j.now c.requires.over c.args.by.now c.args.j.now.inner c.args.inner c.requires.inner

pub is_passed_over-requires-clause-classes : goal.is_passed_over-requires-clause-classes
is_passed_over-requires-clause-classes c =
    let j = c.args.j.now in
    let at = side-at j c.requires.over c.args.by.now j.outer c.args.outer c.requires.outer in
    subst (AreClasses j.q.now) (sym c.in_ok-keys.ensures) (side-classes j.cat.now j.q.now j.outer (has j.outer.0) (has j.inner.0) c.args.by.now (side_path c.args.outer) c.args.outer.sorted at c.requires.list)

pub is_passed_over-requires-clause-front : goal.is_passed_over-requires-clause-front
is_passed_over-requires-clause-front c =
    let j = c.args.j.now in
    joins-there j.cat.now j.q.now (paths_at j.table.now) j.set (map path c.args.front.now) c.requires.joins

pub is_passed_over-requires-2-clause-classes : goal.is_passed_over-requires-2-clause-classes
is_passed_over-requires-2-clause-classes c =
    let j = c.args.j.now in
    let at = side-at j c.requires.over c.args.by.now j.outer c.args.outer c.requires.outer in
    subst (AreClasses j.q.now) (sym c.in_ok-keys.ensures) (side-classes j.cat.now j.q.now j.outer (has j.outer.0) (has j.inner.0) c.args.by.now (side_path c.args.outer) c.args.outer.sorted at c.requires.list)

pub is_passed_over-requires-2-clause-front : goal.is_passed_over-requires-2-clause-front
is_passed_over-requires-2-clause-front c =
    let j = c.args.j.now in
    joins-there j.cat.now j.q.now (paths_at j.table.now) j.set (map path c.args.front.now) c.requires.joins

pub returns-then-branch-clause-served : goal.returns-then-branch-clause-served
returns-then-branch-clause-served c =
    let j = c.args.j.now in
    let by' = c.args.by.now in
    let o = c.args.outer in
    let i = c.args.inner in
    c.in_ok-is_passed_over.ensures.served c.if-branch.true (merge_of by' o i) _
    (sides-plan j.cat.now j.q.now (paths_at j.table.now) c.requires.over.placed j by' c.requires.over.split c.requires.list (side_path o) (side_path i) o.sorted i.sorted c.requires.outer c.requires.inner) refl
    (merge-least j by' (side_path o) (side_path i) o.sorted i.sorted c.merge_kept-least.result c.merge_kept-least.ensures)
    (sides-keys j.cat.now j.q.now (paths_at j.table.now) c.requires.over.placed j by' c.requires.over.split c.requires.list (side_path o) (side_path i) o.sorted i.sorted c.requires.outer c.requires.inner c.in_ok-keys.keys c.in_ok-keys.ensures)

pub returns-then-branch-2-clause-served : goal.returns-then-branch-2-clause-served
returns-then-branch-2-clause-served c =
    let j = c.args.j.now in
    let by' = c.args.by.now in
    let o = c.args.outer in
    let i = c.args.inner in
    let at = side-at j c.requires.over by' j.outer o c.requires.outer in
    let at' = side-at j c.requires.over by' j.inner i c.requires.inner in
    c.in_ok-is_passed_over-2.ensures.served c.if-branch-2.true (merge_of by' o i) _
    (sides-plan j.cat.now j.q.now (paths_at j.table.now) c.requires.over.placed j by' c.requires.over.split c.requires.list (side_path o) (side_path i) o.sorted i.sorted c.requires.outer c.requires.inner) refl
    (at-most-same _ _ (merge-exact j by' (side_path o) (side_path i) o.sorted i.sorted c.merge_work-work.result c.merge_kept-cost.result at at' c.merge_work-work.ensures c.merge_kept-cost.ensures))
    (sides-keys j.cat.now j.q.now (paths_at j.table.now) c.requires.over.placed j by' c.requires.over.split c.requires.list (side_path o) (side_path i) o.sorted i.sorted c.requires.outer c.requires.inner c.in_ok-keys.keys c.in_ok-keys.ensures)

pub offer_join-requires-clause-of : goal.offer_join-requires-clause-of
offer_join-requires-clause-of c =
    let j = c.args.j.now in
    let o = c.args.outer in
    let i = c.args.inner in
    subst (IsJoinOf j) (sym c.in_ok-t.ensures)
    (sides-plan j.cat.now j.q.now (paths_at j.table.now) c.requires.over.placed j c.args.by.now c.requires.over.split c.requires.list (side_path o) (side_path i) o.sorted i.sorted c.requires.outer c.requires.inner)

pub offer_join-requires-clause-cost : goal.offer_join-requires-clause-cost
offer_join-requires-clause-cost c =
    let j = c.args.j.now in
    let by' = c.args.by.now in
    let o = c.args.outer in
    let i = c.args.inner in
    let at = side-at j c.requires.over by' j.outer o c.requires.outer in
    let at' = side-at j c.requires.over by' j.inner i c.requires.inner in
    merge-exact j by' (side_path o) (side_path i) o.sorted i.sorted c.merge_work-work.result c.merge_kept-cost.result at at' c.merge_work-work.ensures c.merge_kept-cost.ensures ∙ ap (kept_of j) (sym c.in_ok-t.ensures)

pub offer_join-requires-clause-keys : goal.offer_join-requires-clause-keys
offer_join-requires-clause-keys c =
    let j = c.args.j.now in
    let o = c.args.outer in
    let i = c.args.inner in
    sides-keys j.cat.now j.q.now (paths_at j.table.now) c.requires.over.placed j c.args.by.now c.requires.over.split c.requires.list (side_path o) (side_path i) o.sorted i.sorted c.requires.outer c.requires.inner c.in_ok-keys.keys c.in_ok-keys.ensures
    ∙ ap (keys_of j.cat.now j.q.now) (sym c.in_ok-t.ensures)

pub offer_join-requires-clause-front : goal.offer_join-requires-clause-front
offer_join-requires-clause-front c =
    let j = c.args.j.now in
    joins-there j.cat.now j.q.now (paths_at j.table.now) j.set (map path c.args.front.now) c.requires.joins

pub returns-clause-takes : goal.returns-clause-takes
returns-clause-takes c =
    let j = c.args.j.now in
    let o = c.args.outer in
    let i = c.args.inner in
    let fronts = paths_at j.table.now in
    c.offer_join.ensures.takes fronts (subst (IsJoinOfKept fronts) (sym c.in_ok-t.ensures)
    (sides-kept j.cat.now j.q.now fronts c.requires.over.placed j c.args.by.now c.requires.over.split c.requires.list (side_path o) (side_path i) o.sorted i.sorted c.requires.outer c.requires.inner)) c.requires.joins

pub returns-clause-served : goal.returns-clause-served
returns-clause-served c =
    let j = c.args.j.now in
    let front = map path c.offer_join.new.front in
    on_ok_weaker c.offer_join.result
    (λ h built below. dominating-serves j.cat.now j.q.now j.asked front (merge_of c.args.by.now c.args.outer c.args.inner) (subst (HasDominating j.cat.now j.q.now front) c.in_ok-t.ensures h)) c.offer_join.ensures.served
