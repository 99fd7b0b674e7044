use Rattle.std.proofs.Common.{◌∙◌, ap, sym, subst, true≢false}
use Rattle.sql_query.specs.catalog_Contents.{indexes_of}
use Rattle.pg_expr.specs.work.View.{cond}
use Rattle.plan_tree.specs.Bitmaps.{MatchesArm}
use Rattle.plan_tree.proofs.ElementLemmas.{AreLeft, all-left, fewer-left, none-left-has}
use Rattle.plan_tree.proofs.elements.has_match.Goals as goal

pub loop-i-init : goal.loop-i-init
loop-i-init c =
    let P = MatchesArm c.args.cat.now c.args.q.now c.args.r.0 (cond c.args.arm.now) in
    subst (AreLeft P) (sym (c.indexes-i-items.ensures.value ∙ ap (indexes_of c.args.cat.now) c.table_of.ensures.table)) (all-left c.args.cat.now c.args.q.now c.args.r.0 P (λ i h. h.index))

pub loop-i-preserved : goal.loop-i-preserved
loop-i-preserved c =
    let P = MatchesArm c.args.cat.now c.args.q.now c.args.r.0 (cond c.args.arm.now) in
    fewer-left P c.indexes-i-items.result.now c.loop-i.i-index _ c.loop-i-test.true (λ h. true≢false (sym (c.matches_arm.ensures.matches.1 h) ∙ c.if-matches_arm.false)) c.loop-i.invariant

pub returns : goal.returns
returns c =
    let P = MatchesArm c.args.cat.now c.args.q.now c.args.r.0 (cond c.args.arm.now) in
    (λ wrong. absurd (true≢false (sym wrong)), λ found. absurd (none-left-has P c.indexes-i-items.result.now c.loop-i.i-index c.loop-i-test.false c.loop-i.invariant found.0 found.1))
