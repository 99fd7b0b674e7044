use Rattle.std.proofs.Common.{◌∙◌, ap, sym, subst, length}
use Rattle.std.proofs.lemmas.List.{length-map}
use Rattle.std.specs.List.{AllZip}
use Rattle.pg_expr.specs.work.View.{cond}
use Rattle.plan_tree.specs.index_match_Arms.{arms_of}
use Rattle.plan_tree.specs.Bitmaps.{MatchesArm, condition_at}
use Rattle.plan_tree.proofs.ElementLemmas.{same-number}
use Rattle.plan_tree.proofs.PricingLemmas.{arms-found}
use Rattle.pg_base.proofs.ListLemmas.{zip-long}
use Rattle.plan_space.proofs.trees.has_arms.Goals as goal

pub all_match-requires-clause-few : goal.all_match-requires-clause-few
all_match-requires-clause-few c = c.in-Some.ensures.few c.args.cat.now c.requires.query

pub returns-then-indexes-arms : goal.returns-then-indexes-arms
returns-then-indexes-arms c =
    let matches = MatchesArm c.args.cat.now c.args.q.now c.args.r.0 in
    let are = arms-found (condition_at c.args.q.now c.args.n) c.in-Some.arms.now c.in-Some.ensures.arms in
    (λ h. subst (λ xs. AllZip matches xs c.args.indexes.now) (sym are) (c.all_match.ensures.0 h), λ h. c.all_match.ensures.1 (subst (λ xs. AllZip matches xs c.args.indexes.now) are h))

pub returns-else-indexes-arms : goal.returns-else-indexes-arms
returns-else-indexes-arms c =
    let matches = MatchesArm c.args.cat.now c.args.q.now c.args.r.0 in
    let are = arms-found (condition_at c.args.q.now c.args.n) c.in-Some.arms.now c.in-Some.ensures.arms in (
      λ h. absurd (c.if-indexes-arms.false (same-number (length c.args.indexes.now) (length c.in-Some.arms.now) h)),
      λ h. absurd (c.if-indexes-arms.false (zip-long matches (arms_of (condition_at c.args.q.now c.args.n)) c.args.indexes.now h ∙ ap length are ∙ length-map c.in-Some.arms.now cond)),
    )
