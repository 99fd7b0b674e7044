use Rattle.std.proofs.Common.{◌++◌, ◌∷◌, [], List, map, subst, sym, take_all}
use Rattle.std.specs.List.{AllZip}
use Rattle.pg_base.specs.declared.numbers.IndexNo.{IndexNo}
use Rattle.pg_expr.specs.work.View.{cond}
use Rattle.pg_expr.specs.declared.expr.Expr.{Expr}
use Rattle.plan_tree.specs.Bitmaps.{MatchesArm}
use Rattle.bitmap_scan.specs.work.Arms.{IsLeastMatch}
use Rattle.scan_cover.proofs.ArmLemmas.{filled-next, filled-none, put-next}
use Rattle.scan_cover.proofs.arms.put_least.Goals as goal

pub loop-n-init : goal.loop-n-init
loop-n-init c = ([], tt, filled-none c.args.into.now)

pub least_match-found-requires-clause-some : goal.least_match-found-requires-clause-some
least_match-found-requires-clause-some c =
    subst (λ (x : Expr). (i : IndexNo) × MatchesArm c.args.cat.now c.args.q.now c.args.r.0 (cond x) i) (sym c.index-arms-n.is)
    (c.requires.some c.loop-n.n c.index-arms-n.result c.loop-n-test.true)

pub loop-n-preserved : goal.loop-n-preserved
loop-n-preserved c =
    let h = c.loop-n.invariant in
    let i = c.least_match-found.result.0 in (
      h.0 ++ i ∷ [],
      put-next c.args.cat.now c.args.q.now c.args.r c.args.p c.args.arms.now c.loop-n.n _ c.loop-n-test.true c.index-arms-n.is h.0 i h.1 c.least_match-found.ensures.least,
      filled-next c.args.into.now c.loop-n.into c.push.new.self h.0 i h.2 c.push.ensures,
    )

pub returns : goal.returns
returns c =
    let h = c.loop-n.invariant in
    (h.0, subst (λ (es : List Expr). AllZip (IsLeastMatch c.args.cat.now c.args.q.now c.args.r c.args.p) (map cond es) h.0) (take_all c.loop-n.n c.args.arms.now c.loop-n-test.false) h.1, h.2)
