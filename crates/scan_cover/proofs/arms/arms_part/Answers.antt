use Rattle.std.proofs.Common.{◌++◌, ◌∷◌, [], List, map, sym, subst, take_all}
use Rattle.pg_base.specs.declared.numbers.IndexNo.{IndexNo}
use Rattle.pg_expr.specs.work.View.{cond}
use Rattle.pg_expr.specs.declared.expr.Expr.{Expr}
use Rattle.plan_tree.specs.Bitmaps.{MatchesArm}
use Rattle.bitmap_scan.specs.work.Arms.{AreServed}
use Rattle.scan_cover.proofs.ArmLemmas.{served-next, served-none}
use Rattle.scan_cover.proofs.arms.arms_part.Goals as goal

pub loop-n-init : goal.loop-n-init
loop-n-init c = ([], served-none c.args.cat.now c.args.q.now c.args.r c.args.p)

pub least_match-found-requires-clause-some : goal.least_match-found-requires-clause-some
least_match-found-requires-clause-some c =
    subst (λ (x : Expr). (i : IndexNo) × MatchesArm c.args.cat.now c.args.q.now c.args.r.0 (cond x) i) (sym c.index-arms-n.is)
    (c.requires.some c.loop-n.n c.index-arms-n.result c.loop-n-test.true)

pub loop-n-preserved : goal.loop-n-preserved
loop-n-preserved c =
    let found = c.least_match-found in
    let sum = c.with_part-sum in
    let h = c.loop-n.invariant in
    (h.0 ++ found.result.0 ∷ [], served-next c.args.cat.now c.args.q.now c.args.r c.args.p c.args.arms.now c.loop-n.n _ c.loop-n-test.true c.index-arms-n.is h.0 c.loop-n.sum found.result.0 found.result.1 sum.result h.1 found.ensures.least found.ensures.part sum.ensures)

pub returns : goal.returns
returns c =
    let h = c.loop-n.invariant in
    (h.0, subst (λ (es : List Expr). AreServed c.args.cat.now c.args.q.now c.args.r c.args.p (map cond es) h.0 c.loop-n.sum) (take_all c.loop-n.n c.args.arms.now c.loop-n-test.false) h.1)
