use Rattle.std.proofs.Common.{◌∙◌, arith, sym, true≢false}
use Rattle.sql_query.specs.Queries.{width}
use Rattle.plan_tree.specs.Plans.{set_of}
use Rattle.plan_tree.specs.work.Views.{plan}
use Rattle.plan_tree.proofs.EstimateLemmas.{below-more}
use Rattle.plan_tree.proofs.PricingLemmas.{costable-reads}
use Rattle.plan_space.proofs.JoinLemmas.{merge-of}
use Rattle.plan_space.proofs.joins.is_merge.Goals as goal

pub are_whole_sides-requires-clause-outer : goal.are_whole_sides-requires-clause-outer
are_whole_sides-requires-clause-outer c = below-more (width c.args.q.now) 16 (plan c.args.outer.now) c.requires.query.few (costable-reads c.args.cat.now c.args.q.now (plan c.args.outer.now) c.requires.outer)

pub are_whole_sides-requires-clause-inner : goal.are_whole_sides-requires-clause-inner
are_whole_sides-requires-clause-inner c = below-more (width c.args.q.now) 16 (plan c.args.inner.now) c.requires.query.few (costable-reads c.args.cat.now c.args.q.now (plan c.args.inner.now) c.requires.inner)

pub set_of-requires : goal.set_of-requires
set_of-requires c = record { below = below-more (width c.args.q.now) 16 (plan c.args.outer.now) c.requires.query.few (costable-reads c.args.cat.now c.args.q.now (plan c.args.outer.now) c.requires.outer) }

pub set_of-requires-2 : goal.set_of-requires-2
set_of-requires-2 c = record { below = below-more (width c.args.q.now) 16 (plan c.args.inner.now) c.requires.query.few (costable-reads c.args.cat.now c.args.q.now (plan c.args.inner.now) c.requires.inner) }

pub returns-then-not-is_merge_list : goal.returns-then-not-is_merge_list
returns-then-not-is_merge_list c =
    let made = c.is_merge_list.ensures c.args.cat.now c.args.q.now (sym c.classes_of.ensures) in
    let of = merge-of c.args.cat.now c.args.q.now c.set_of.result.0 c.set_of-2.result.0 (set_of (plan c.args.outer.now)) (set_of (plan c.args.inner.now)) c.args.list.now c.set_of.ensures.members c.set_of-2.ensures.members in
    (λ wrong. absurd (true≢false (sym wrong)), λ h. absurd (true≢false (sym (made.1 (of.1 h.list)) ∙ c.if-not-is_merge_list.true)))

pub has_keys-requires-clause-few : goal.has_keys-requires-clause-few
has_keys-requires-clause-few c =
    let few = (c.is_merge_list.ensures c.args.cat.now c.args.q.now (sym c.classes_of.ensures)).0 c.if-not-is_merge_list.false in
    omega (arith, few.few)

pub has_keys-requires-then-has_keys-clause-few : goal.has_keys-requires-then-has_keys-clause-few
has_keys-requires-then-has_keys-clause-few c =
    let few = (c.is_merge_list.ensures c.args.cat.now c.args.q.now (sym c.classes_of.ensures)).0 c.if-not-is_merge_list.false in
    omega (arith, few.few)

pub returns-then-has_keys : goal.returns-then-has_keys
returns-then-has_keys c =
    let made = c.is_merge_list.ensures c.args.cat.now c.args.q.now (sym c.classes_of.ensures) in
    let of = merge-of c.args.cat.now c.args.q.now c.set_of.result.0 c.set_of-2.result.0 (set_of (plan c.args.outer.now)) (set_of (plan c.args.inner.now)) c.args.list.now c.set_of.ensures.members c.set_of-2.ensures.members in
    let whole = c.are_whole_sides.ensures.0 c.if-not-are_whole_sides.false in (
      λ yes. record {
        sides = whole.0;
        inner_whole = whole.1;
        list = of.0 (made.0 c.if-not-is_merge_list.false);
        outer_keys = c.has_keys.ensures.0 c.if-has_keys.true;
        inner_keys = c.has_keys-then-has_keys.ensures.0 yes;
      },
      λ h. c.has_keys-then-has_keys.ensures.1 h.inner_keys,
    )
