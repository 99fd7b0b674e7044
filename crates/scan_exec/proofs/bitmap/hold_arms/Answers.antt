use Rattle.std.proofs.Common.{List, ◌≤◌, ◌+◌, ◌∙◌, ap, length, map, subst, sym}
use Rattle.std.specs.List.{AllZip}
use Rattle.pg_base.specs.Sets.{has}
use Rattle.pg_expr.specs.Cond.{Cond}
use Rattle.pg_expr.specs.work.View.{cond}
use Rattle.plan_tree.specs.Bitmaps.{MatchesArm, condition_at}
use Rattle.plan_tree.proofs.PricingLemmas.{arms-found}
use Rattle.plan_tree.specs.Counts.{arm_looks}
use Rattle.scan_exec.specs.work.Held.{IsMade}
use Rattle.scan_exec.specs.work.Scene.{tuple_of, world_of}
use Rattle.scan_exec.proofs.HeldLemmas.{made_empty}
use Rattle.scan_exec.proofs.SetLemmas.{arms_are, no_arms_are}
use Rattle.scan_exec.proofs.TreeLemmas.{near_arms}
use Rattle.scan_exec.proofs.bitmap.hold_arms.Goals as goal

pub mark_arms-requires-clause-near : goal.mark_arms-requires-clause-near
mark_arms-requires-clause-near g c =
    let s = c.args.at.now in
    near_arms s.cat.now s.q.now s.rel.0 (has s.param.0) (condition_at s.q.now c.args.n) c.in-Some.arms.now c.in-Some.ensures.arms c.requires.tree.0

pub mark_arms-requires-clause-matched : goal.mark_arms-requires-clause-matched
mark_arms-requires-clause-matched g c =
    let s = c.args.at.now in
    subst (λ (l : List Cond). AllZip (MatchesArm s.cat.now s.q.now s.rel.0) l c.args.indexes.now) (arms-found (condition_at s.q.now c.args.n) c.in-Some.arms.now c.in-Some.ensures.arms) c.requires.tree.1

pub mark_arms-requires-clause-made : goal.mark_arms-requires-clause-made
mark_arms-requires-clause-made g c = subst IsMade (sym c.in_ok-held.ensures) (made_empty c.len-rows.result)

pub returns-in_err-mark_arms-in-Some-clause-most : goal.returns-in_err-mark_arms-in-Some-clause-most
returns-in_err-mark_arms-in-Some-clause-most g c =
    let s = c.args.at.now in
    subst (λ (l : List Cond). c.mark_arms.new.reads ≤ c.args.reads.now + arm_looks (world_of s) s.q.now s.rel (tuple_of s) l c.args.indexes.now)
    (sym (arms-found (condition_at s.q.now c.args.n) c.in-Some.arms.now c.in-Some.ensures.arms)) c.mark_arms.ensures.most

pub returns-in_ok-mark_arms-in-Some-clause-most : goal.returns-in_ok-mark_arms-in-Some-clause-most
returns-in_ok-mark_arms-in-Some-clause-most g c =
    let s = c.args.at.now in
    subst (λ (l : List Cond). c.mark_arms.new.reads ≤ c.args.reads.now + arm_looks (world_of s) s.q.now s.rel (tuple_of s) l c.args.indexes.now)
    (sym (arms-found (condition_at s.q.now c.args.n) c.in-Some.arms.now c.in-Some.ensures.arms)) c.mark_arms.ensures.most

pub returns-in_ok-mark_arms-in-Some-clause-held : goal.returns-in_ok-mark_arms-in-Some-clause-held
returns-in_ok-mark_arms-in-Some-clause-held g c =
    let s = c.args.at.now in
    arms_are (world_of s) s.q.now s.rel s.param (tuple_of s) c.args.n c.args.indexes.now c.len-rows.result (c.len-rows.ensures.len ∙ ap length c.heap.ensures.rows) c.in_ok-held.held c.mark_arms.new.held c.in_ok-held.ensures
    (map cond c.in-Some.arms.now) (arms-found (condition_at s.q.now c.args.n) c.in-Some.arms.now c.in-Some.ensures.arms) c.in_ok-mark_arms-in-Some.ensures.held

pub returns-in-None-clause-held : goal.returns-in-None-clause-held
returns-in-None-clause-held g c =
    let s = c.args.at.now in
    no_arms_are (world_of s) s.q.now s.rel s.param (tuple_of s) c.args.n c.args.indexes.now c.len-rows.result (c.len-rows.ensures.len ∙ ap length c.heap.ensures.rows) c.in_ok-held.held c.in_ok-held.ensures c.in-None.ensures.arms
