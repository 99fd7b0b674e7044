use Rattle.std.proofs.Common.{◌≡◌, ◌∙◌, ◌++◌, ◌∷◌, [], List, ap, sym, map, subst, take, length, rules}
use Rattle.std.proofs.lemmas.List.{map-append, take_more}
use Rattle.pg_base.specs.declared.numbers.IndexNo.{IndexNo}
use Rattle.pg_expr.specs.Cond.{Cond}
use Rattle.pg_expr.specs.work.View.{cond}
use Rattle.pg_expr.specs.declared.expr.Expr.{Expr}
use Rattle.plan_tree.specs.Bitmaps.{MatchesArm}
use Rattle.bitmap_scan.specs.work.Arms.{AreServed}
use Rattle.bitmap_scan.proofs.ArmLemmas.{served-more}
use Rattle.bitmap_scan.proofs.arms.least_matches.Goals as goal

pub least_match-part-requires-clause-some : goal.least_match-part-requires-clause-some
least_match-part-requires-clause-some c =
    subst (λ (x : Expr). (i : IndexNo) × MatchesArm c.args.cat.now c.args.q.now c.args.r.0 (cond x) i) (sym c.arm-item.is)
    (c.requires.some c.loop-arm.arm-index c.arm-item.result c.loop-arm-test.true)

pub loop-arm-preserved : goal.loop-arm-preserved
loop-arm-preserved c =
    let contents = c.args.cat.now in
    let q = c.args.q.now in
    let arms = c.args.arms.now in
    let n = c.loop-arm.arm-index in
    let seen = map cond (take n arms) in
    let item = c.arm-item.result in
    let found = c.least_match-part in
    let sum = c.with_part-sum in
    let more = ap (map cond) (take_more arms n item c.loop-arm-test.true) ∙ map-append cond (take n arms) (_ ∷ []) ∙ ap (λ (x : Expr). seen ++ cond x ∷ []) (sym c.arm-item.is) in
    let is = c.loop-arm.indexes.items in
    let pushed : c.push.new.self.items ≡ is ++ found.result.0 ∷ [] = c.in_ok-push.ensures.items in
    let many : c.len.result ≡ length is = search rules in
    let served = served-more contents q c.args.r c.args.p seen is c.loop-arm.sum (cond item) found.result.0 found.result.1 sum.result c.loop-arm.invariant found.ensures.least found.ensures.part (λ ns l e f g. sum.ensures ns l e f (many ∙ g)) in
    subst (λ (xs : List Cond). AreServed contents q c.args.r c.args.p xs c.push.new.self.items sum.result) (sym more)
    (subst (λ (js : List IndexNo). AreServed contents q c.args.r c.args.p (seen ++ cond item ∷ []) js sum.result) (sym pushed) served)
