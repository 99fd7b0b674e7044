use Rattle.std.proofs.Common.{◌≡◌, ◌∙◌, ◌+◌, true, ap, sym, drop, subst, true≢false, List}
use Rattle.pg_base.specs.declared.numbers.IndexNo.{IndexNo}
use Rattle.catalog.specs.Contents.{indexes_of}
use Rattle.pg_expr.specs.work.View.{cond}
use Rattle.cost_rules.specs.work.Costs.{capped}
use Rattle.plan_tree.specs.Bitmaps.{MatchesArm}
use Rattle.plan_tree.proofs.ElementLemmas.{is-listed, listed-on}
use Rattle.bitmap_scan.specs.work.Arms.{part_for}
use Rattle.bitmap_scan.proofs.ArmLemmas.{BestSoFar, best-found, best-none, best-passed, best-taken}
use Rattle.bitmap_scan.proofs.arms.least_match.Goals as goal
use Rattle.bitmap_scan.proofs.arms.least_match.Goals.{then-matches_arm, else-matches_arm}

pub loop-i-init : goal.loop-i-init
loop-i-init c =
    let P = MatchesArm c.args.cat.now c.args.q.now c.args.r.0 (cond c.args.arm.now) in
    let e = c.indexes-i-items.ensures.value ∙ ap (indexes_of c.args.cat.now) c.table_of.ensures.table in
    best-none P (λ i. capped (part_for c.args.cat.now c.args.q.now c.args.r c.args.p (cond c.args.arm.now) i)) c.indexes-i-items.result.now
    (λ j h. subst (λ (xs : List IndexNo). is-listed j xs ≡ true) (sym e) ((listed-on c.args.cat.now c.args.q.now c.args.r.0 j).1 h.index))

pub loop-i-preserved : goal.loop-i-preserved
loop-i-preserved c =
    let P = MatchesArm c.args.cat.now c.args.q.now c.args.r.0 (cond c.args.arm.now) in
    let f = λ (i : IndexNo). capped (part_for c.args.cat.now c.args.q.now c.args.r c.args.p (cond c.args.arm.now) i) in
    let items = c.indexes-i-items.result.now in
    let n = c.loop-i.i-index in
    let best = c.loop-i.best in
    elim c.if-matches_arm.branch [
      | then-matches_arm w ↦
          subst (BestSoFar P f (drop (n + 1) items)) (sym (w.best-is ∙ w.lesser-best.ensures))
          (best-taken P f items n _ best w.arm_part_of.result c.loop-i-test.true (c.matches_arm.ensures.matches.0 w.if-matches_arm.true) w.arm_part_of.ensures.part c.loop-i.invariant)
      | else-matches_arm w ↦
          subst (BestSoFar P f (drop (n + 1) items)) (sym w.best-is)
          (best-passed P f items n _ best c.loop-i-test.true (λ h. true≢false (sym (c.matches_arm.ensures.matches.1 h) ∙ w.if-matches_arm.false)) c.loop-i.invariant)
    ]

pub returns-clause-least : goal.returns-clause-least
returns-clause-least c =
    let P = MatchesArm c.args.cat.now c.args.q.now c.args.r.0 (cond c.args.arm.now) in
    let f = λ (i : IndexNo). capped (part_for c.args.cat.now c.args.q.now c.args.r c.args.p (cond c.args.arm.now) i) in
    let least = best-found P f c.indexes-i-items.result.now c.loop-i.i-index c.in-Some.found c.loop-i.best c.loop-i-test.false c.in-Some.is c.loop-i.invariant in
    record { matches = least.0; least = least.1 }
