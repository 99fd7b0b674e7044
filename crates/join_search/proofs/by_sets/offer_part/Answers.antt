use Rattle.std.proofs.Common.{◌∙◌, map, sym, subst, true≢false}
use Rattle.std.proofs.lemmas.Result.{on_ok_weaker}
use Rattle.plan_tree.specs.work.Views.{path}
use Rattle.join_search.specs.work.Offers.{AreTargetServed}
use Rattle.join_search.specs.work.Tables.{none, paths_at}
use Rattle.join_search.proofs.ItemLemmas.{empty-lent}
use Rattle.join_search.proofs.OfferLemmas.{takes-none}
use Rattle.join_search.proofs.SearchLemmas.{split-bare, split-none}
use Rattle.join_search.proofs.SetLemmas.{divided, inner-is, outer-within}
use Rattle.join_search.proofs.TableLemmas.{same-number}
use Rattle.join_search.proofs.by_sets.offer_part.Goals as goal

pub returns-then-not-within-clause-takes : goal.returns-then-not-within-clause-takes
returns-then-not-within-clause-takes c =
    let t = c.args.at.now in
    takes-none t.cat.now t.q.now (paths_at t.table.now) t.set (map path c.args.front.now) c.requires.joins

pub returns-then-not-within-clause-served : goal.returns-then-not-within-clause-served
returns-then-not-within-clause-served c =
    λ b d. absurd (true≢false (sym (c.within.ensures.1 (outer-within c.args.at.now.set c.args.part b d)) ∙ c.if-not-within.true))

pub returns-then-is_empty-clause-takes : goal.returns-then-is_empty-clause-takes
returns-then-is_empty-clause-takes c =
    let t = c.args.at.now in
    takes-none t.cat.now t.q.now (paths_at t.table.now) t.set (map path c.args.front.now) c.requires.joins

pub returns-then-is_empty-clause-served : goal.returns-then-is_empty-clause-served
returns-then-is_empty-clause-served c =
    let t = c.args.at.now in
    let fronts = paths_at t.table.now in
    λ b d. split-none t.cat.now t.q.now t.asked fronts (map path c.args.front.now) c.args.part b
    (empty-lent c.paths-outers.result.now (fronts c.args.part none) c.paths-outers.ensures (sym c.is_empty.ensures ∙ c.if-is_empty.true))

pub returns-then-is_bare-clause-takes : goal.returns-then-is_bare-clause-takes
returns-then-is_bare-clause-takes c =
    let t = c.args.at.now in
    takes-none t.cat.now t.q.now (paths_at t.table.now) t.set (map path c.args.front.now) c.requires.joins

pub returns-then-is_bare-clause-served : goal.returns-then-is_bare-clause-served
returns-then-is_bare-clause-served c =
    let t = c.args.at.now in
    let fronts = paths_at t.table.now in
    let rest = c.minus-rest.result in
    λ b d. subst (AreTargetServed t (map path c.args.front.now) c.args.part) (sym (same-number b rest (inner-is t.set c.args.part b rest d c.minus-rest.ensures)))
    (split-bare t.cat.now t.q.now t.asked fronts (map path c.args.front.now) c.args.part rest (c.is_bare.ensures c.if-is_bare.true))

pub offer_sides-requires-clause-divided : goal.offer_sides-requires-clause-divided
offer_sides-requires-clause-divided c = divided c.args.at.now.set c.args.part c.minus-rest.result (c.within.ensures.0 c.if-not-within.false) c.minus-rest.ensures c.requires.some c.requires.less

pub returns-clause-served : goal.returns-clause-served
returns-clause-served c =
    let t = c.args.at.now in
    let rest = c.minus-rest.result in
    on_ok_weaker c.offer_sides.result
    (λ h b d. subst (AreTargetServed t (map path c.offer_sides.new.front) c.args.part) (sym (same-number b rest (inner-is t.set c.args.part b rest d c.minus-rest.ensures))) h) c.offer_sides.ensures.served
