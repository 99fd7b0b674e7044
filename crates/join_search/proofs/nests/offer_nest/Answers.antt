use Rattle.std.proofs.Common.{◌∙◌, ap, map, refl, sym, subst}
use Rattle.std.proofs.lemmas.Result.{on_ok_weaker}
use Rattle.plan_tree.specs.work.Fronts.{HasDominating}
use Rattle.plan_tree.specs.Keys.{keys_of}
use Rattle.plan_tree.specs.Plans.{nest}
use Rattle.plan_tree.specs.work.Views.{path}
use Rattle.join_search.specs.work.Joins.{IsJoinOfKept}
use Rattle.join_search.specs.work.Splits.{IsJoinOf, kept_of}
use Rattle.join_search.specs.work.Tables.{none, paths_at}
use Rattle.join_search.proofs.ItemLemmas.{there-at, there-kept}
use Rattle.join_search.proofs.KeyLemmas.{path-classes}
use Rattle.join_search.proofs.NestLemmas.{nest-exact, nest-least, nest-plan}
use Rattle.join_search.proofs.OfferLemmas.{at-most-same, dominating-serves, joins-there}
use Rattle.join_search.proofs.nests.offer_nest.Goals as goal

pub nest_kept-least-requires-clause-outer : goal.nest_kept-least-requires-clause-outer
nest_kept-least-requires-clause-outer c =
    let j = c.args.j.now in
    there-at j.cat.now j.q.now (paths_at j.table.now) j.outer none (path c.args.outer.now) c.requires.over.placed c.requires.outer

pub nest_kept-cost-requires-clause-outer : goal.nest_kept-cost-requires-clause-outer
nest_kept-cost-requires-clause-outer c =
    let j = c.args.j.now in
    there-at j.cat.now j.q.now (paths_at j.table.now) j.outer none (path c.args.outer.now) c.requires.over.placed c.requires.outer

pub is_passed_over-requires-clause-classes : goal.is_passed_over-requires-clause-classes
is_passed_over-requires-clause-classes c =
    let j = c.args.j.now in
    path-classes j.cat.now j.q.now j.outer none (path c.args.outer.now) (there-at j.cat.now j.q.now (paths_at j.table.now) j.outer none (path c.args.outer.now) c.requires.over.placed c.requires.outer)

pub is_passed_over-requires-clause-front : goal.is_passed_over-requires-clause-front
is_passed_over-requires-clause-front c =
    let j = c.args.j.now in
    joins-there j.cat.now j.q.now (paths_at j.table.now) j.set (map path c.args.front.now) c.requires.joins

pub is_passed_over-requires-2-clause-classes : goal.is_passed_over-requires-2-clause-classes
is_passed_over-requires-2-clause-classes c =
    let j = c.args.j.now in
    path-classes j.cat.now j.q.now j.outer none (path c.args.outer.now) (there-at j.cat.now j.q.now (paths_at j.table.now) j.outer none (path c.args.outer.now) c.requires.over.placed c.requires.outer)

pub is_passed_over-requires-2-clause-front : goal.is_passed_over-requires-2-clause-front
is_passed_over-requires-2-clause-front c =
    let j = c.args.j.now in
    joins-there j.cat.now j.q.now (paths_at j.table.now) j.set (map path c.args.front.now) c.requires.joins

pub returns-then-branch-clause-served : goal.returns-then-branch-clause-served
returns-then-branch-clause-served c =
    let j = c.args.j.now in
    let o = path c.args.outer.now in
    let i = path c.args.inner.now in
    let at = there-at j.cat.now j.q.now (paths_at j.table.now) j.outer none o c.requires.over.placed c.requires.outer in
    c.in_ok-is_passed_over.ensures.served c.if-branch.true (nest o.tree i.tree) _ (nest-plan j.cat.now j.q.now j o i c.requires.over.split at c.requires.inner) refl
    (nest-least j.cat.now j.q.now o.tree i.tree c.nest_kept-least.result c.nest_kept-least.ensures) at.is_path.numbers.keys

pub returns-then-branch-2-clause-served : goal.returns-then-branch-2-clause-served
returns-then-branch-2-clause-served c =
    let j = c.args.j.now in
    let o = path c.args.outer.now in
    let i = path c.args.inner.now in
    let at = there-at j.cat.now j.q.now (paths_at j.table.now) j.outer none o c.requires.over.placed c.requires.outer in
    c.in_ok-is_passed_over-2.ensures.served c.if-branch-2.true (nest o.tree i.tree) _ (nest-plan j.cat.now j.q.now j o i c.requires.over.split at c.requires.inner) refl
    (at-most-same _ _ (nest-exact j.cat.now j.q.now j o i c.nest_ops-ops.result c.nest_kept-cost.result at c.nest_ops-ops.ensures c.nest_kept-cost.ensures)) at.is_path.numbers.keys

pub offer_join-requires-clause-of : goal.offer_join-requires-clause-of
offer_join-requires-clause-of c =
    let j = c.args.j.now in
    let o = path c.args.outer.now in
    subst (IsJoinOf j) (sym c.in_ok-t.ensures) (nest-plan j.cat.now j.q.now j o (path c.args.inner.now) c.requires.over.split (there-at j.cat.now j.q.now (paths_at j.table.now) j.outer none o c.requires.over.placed c.requires.outer) c.requires.inner)

pub offer_join-requires-clause-cost : goal.offer_join-requires-clause-cost
offer_join-requires-clause-cost c =
    let j = c.args.j.now in
    let o = path c.args.outer.now in
    let at = there-at j.cat.now j.q.now (paths_at j.table.now) j.outer none o c.requires.over.placed c.requires.outer in
    nest-exact j.cat.now j.q.now j o (path c.args.inner.now) c.nest_ops-ops.result c.nest_kept-cost.result at c.nest_ops-ops.ensures c.nest_kept-cost.ensures ∙ ap (kept_of j) (sym c.in_ok-t.ensures)

pub offer_join-requires-clause-keys : goal.offer_join-requires-clause-keys
offer_join-requires-clause-keys c =
    let j = c.args.j.now in
    let o = path c.args.outer.now in
    let at = there-at j.cat.now j.q.now (paths_at j.table.now) j.outer none o c.requires.over.placed c.requires.outer in
    c.in_ok-keys.ensures.equal ∙ at.is_path.numbers.keys ∙ ap (keys_of j.cat.now j.q.now) (sym c.in_ok-t.ensures)

pub offer_join-requires-clause-front : goal.offer_join-requires-clause-front
offer_join-requires-clause-front c =
    let j = c.args.j.now in
    joins-there j.cat.now j.q.now (paths_at j.table.now) j.set (map path c.args.front.now) c.requires.joins

pub returns-clause-takes : goal.returns-clause-takes
returns-clause-takes c =
    let j = c.args.j.now in
    let fronts = paths_at j.table.now in
    c.offer_join.ensures.takes fronts (subst (IsJoinOfKept fronts) (sym c.in_ok-t.ensures) (there-kept fronts j.outer none (path c.args.outer.now) c.requires.outer, c.requires.kept)) c.requires.joins

pub returns-clause-served : goal.returns-clause-served
returns-clause-served c =
    let j = c.args.j.now in
    let front = map path c.offer_join.new.front in
    on_ok_weaker c.offer_join.result
    (λ h built below. dominating-serves j.cat.now j.q.now j.asked front (nest (path c.args.outer.now).tree (path c.args.inner.now).tree) (subst (HasDominating j.cat.now j.q.now front) c.in_ok-t.ensures h)) c.offer_join.ensures.served
