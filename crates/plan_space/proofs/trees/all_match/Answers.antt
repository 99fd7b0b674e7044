use Rattle.std.proofs.Common.{◌∙◌, sym, subst, true≢false, get_or}
use Rattle.pg_expr.specs.declared.expr.Expr.{Expr}
use Rattle.pg_expr.specs.work.View.{cond}
use Rattle.plan_tree.specs.Bitmaps.{MatchesArm}
use Rattle.plan_tree.proofs.PricingLemmas.{zip-at}
use Rattle.plan_space.proofs.trees.all_match.Goals as goal

pub returns-then-not-matches_arm : goal.returns-then-not-matches_arm
returns-then-not-matches_arm c =
    let matches = MatchesArm c.args.cat.now c.args.q.now c.args.r.0 in (
      λ wrong. absurd (true≢false (sym wrong)),
      λ all. absurd (true≢false (sym (c.matches_arm.ensures.matches.1 (subst (λ (x : Expr). matches (cond x) (get_or c.args.indexes.now c.loop-n.n (record { 0 = 0 }))) (sym c.index-arms-n.is) (zip-at matches cond c.args.arms.now c.args.indexes.now c.loop-n.n c.index-arms-n.result (record { 0 = 0 }) all c.loop-n-test.true))) ∙ c.if-not-matches_arm.true)),
    )
