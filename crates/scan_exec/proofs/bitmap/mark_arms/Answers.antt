use Rattle.std.proofs.Common.{slice_index_or, subst, sym}
use Rattle.pg_base.specs.declared.numbers.IndexNo.{IndexNo}
use Rattle.pg_expr.specs.declared.expr.Expr.{Expr}
use Rattle.pg_expr.specs.work.View.{cond}
use Rattle.plan_tree.specs.Bitmaps.{MatchesArm}
use Rattle.plan_tree.proofs.PricingLemmas.{zip-at, zip-within}
use Rattle.scan_exec.specs.work.Scene.{tuple_of, world_of}
use Rattle.scan_exec.proofs.SetLemmas.{arm_on, arm_stops}
use Rattle.scan_exec.proofs.bitmap.mark_arms.Goals as goal

pub bounds-indexes-n : goal.bounds-indexes-n
bounds-indexes-n g c =
    let s = c.args.at.now in
    zip-within (MatchesArm s.cat.now s.q.now s.rel.0) cond c.args.arms.now c.args.indexes.now c.loop-n.n c.requires.matched c.loop-n-test.true

pub mark_arm-requires-clause-matched : goal.mark_arm-requires-clause-matched
mark_arm-requires-clause-matched g c =
    let s = c.args.at.now in
    let zero : IndexNo = record { 0 = 0 } in
    subst (λ (x : Expr). MatchesArm s.cat.now s.q.now s.rel.0 (cond x) (slice_index_or c.args.indexes.now c.loop-n.n zero)) (sym c.index-arms-n.is)
    (zip-at (MatchesArm s.cat.now s.q.now s.rel.0) cond c.args.arms.now c.args.indexes.now c.loop-n.n c.index-arms-n.result zero c.requires.matched c.loop-n-test.true)

pub returns-in_err-mark_arm-clause-most : goal.returns-in_err-mark_arm-clause-most
returns-in_err-mark_arm-clause-most g c =
    let s = c.args.at.now in
    arm_stops (world_of s) s.q.now s.rel s.param (tuple_of s) c.args.arms.now c.args.indexes.now c.loop-n.n c.loop-n-test.true
    (zip-within (MatchesArm s.cat.now s.q.now s.rel.0) cond c.args.arms.now c.args.indexes.now c.loop-n.n c.requires.matched c.loop-n-test.true)
    c.index-arms-n.result (record { 0 = 0 }) c.index-arms-n.is c.args.held.now c.loop-n.held c.args.reads.now c.loop-n.reads c.loop-n.invariant c.mark_arm.new.reads c.mark_arm.ensures.most

pub loop-n-preserved : goal.loop-n-preserved
loop-n-preserved g c =
    let s = c.args.at.now in
    arm_on (world_of s) s.q.now s.rel s.param (tuple_of s) c.args.arms.now c.args.indexes.now c.loop-n.n c.loop-n-test.true
    (zip-within (MatchesArm s.cat.now s.q.now s.rel.0) cond c.args.arms.now c.args.indexes.now c.loop-n.n c.requires.matched c.loop-n-test.true)
    c.index-arms-n.result (record { 0 = 0 }) c.index-arms-n.is c.args.held.now c.loop-n.held c.args.reads.now c.loop-n.reads c.loop-n.invariant c.mark_arm.new.held c.mark_arm.new.reads c.in_ok-mark_arm.ensures.held c.mark_arm.ensures.most
