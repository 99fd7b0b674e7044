use Rattle.std.proofs.Common.{rules, ◌∙◌, sym, subst, true≢false}
use Rattle.pg_base.specs.declared.numbers.IndexNo.{IndexNo}
use Rattle.pg_expr.specs.declared.expr.Expr.{Expr}
use Rattle.pg_expr.specs.Cond.{Cond}
use Rattle.pg_expr.specs.work.View.{cond}
use Rattle.plan_tree.specs.Bitmaps.{MatchesArm}
use Rattle.plan_tree.proofs.ElementLemmas.{all-where, fewer-where, not-where, end-where}
use Rattle.plan_tree.proofs.elements.are_matched.Goals as goal

pub loop-arm-init : goal.loop-arm-init
loop-arm-init c = all-where cond (λ (arm : Cond). (i : IndexNo) × MatchesArm c.args.cat.now c.args.q.now c.args.r.0 arm i) c.args.arms.now

pub loop-arm-preserved : goal.loop-arm-preserved
loop-arm-preserved c =
    let P = λ (arm : Cond). (i : IndexNo) × MatchesArm c.args.cat.now c.args.q.now c.args.r.0 arm i in
    fewer-where cond P c.args.arms.now c.loop-arm.arm-index c.arm-item.result c.loop-arm-test.true (subst (λ (x : Expr). P (cond x)) c.arm-item.is (c.has_match.ensures.0 c.if-not-has_match.false)) c.loop-arm.invariant

pub returns-then-not-has_match : goal.returns-then-not-has_match
returns-then-not-has_match c =
    let P = λ (arm : Cond). (i : IndexNo) × MatchesArm c.args.cat.now c.args.q.now c.args.r.0 arm i in (
      λ wrong. absurd (true≢false (sym wrong)),
      λ all. absurd (not-where cond P c.args.arms.now c.loop-arm.arm-index c.arm-item.result c.loop-arm-test.true
          (λ h. true≢false (sym (c.has_match.ensures.1 (subst (λ (x : Expr). P (cond x)) (sym c.arm-item.is) h)) ∙ c.if-not-has_match.true)) c.loop-arm.invariant all),
    )

pub returns : goal.returns
returns c =
    let P = λ (arm : Cond). (i : IndexNo) × MatchesArm c.args.cat.now c.args.q.now c.args.r.0 arm i in
    (λ h. end-where cond P c.args.arms.now c.loop-arm.arm-index c.loop-arm-test.false c.loop-arm.invariant, λ h. search rules)
