use Rattle.std.proofs.Common.{◌≡◌, ◌∙◌, refl, sym, arith, length}
use Rattle.std.specs.Prelude.{slice_get}
use Rattle.std.proofs.lemmas.List.{length-map}
use Rattle.eq_classes.specs.declared.classes.ClassNo.{ClassNo}
use Rattle.pathkeys.specs.work.Finding.{class_numbers}
use Rattle.plan_tree.specs.Keys.{keys_of}
use Rattle.plan_tree.specs.work.Views.{plan}
use Rattle.plan_space.proofs.KeyLemmas.{class-at, covers-at, covers-from, number-at, other-class}
use Rattle.pg_base.proofs.NumberLemmas.{each-below as below-next}
use Rattle.plan_space.proofs.keys.keys_begin_with.Goals as goal

pub returns-then-not-is_at : goal.returns-then-not-is_at
returns-then-not-is_at c =
    let keys = keys_of c.args.cat.now c.args.q.now (plan c.args.p.now) in
    let long : length (class_numbers c.args.list.now) ≡ length c.args.list.now = length-map c.args.list.now (λ (x : ClassNo). x.0) in
    let lt = c.loop-n-test.true in
    record { covered = (λ no. cc, λ h. absurd (other-class _ _ (sym c.if-not-is_at.ensures) (c.key_at.ensures.class ∙ covers-at keys (class_numbers c.args.list.now) c.loop-n.n h (omega (arith, long, lt)) ∙ number-at c.args.list.now c.loop-n.n (record { 0 = 0 }) lt))) }

pub loop-n-preserved : goal.loop-n-preserved
loop-n-preserved c =
    let keys = keys_of c.args.cat.now c.args.q.now (plan c.args.p.now) in
    below-next (λ k. slice_get keys k ≡ slice_get (class_numbers c.args.list.now) k) c.loop-n.n c.loop-n.invariant
    (sym c.key_at.ensures.class ∙ class-at _ _ (sym c.if-not-is_at.ensures) ∙ sym (number-at c.args.list.now c.loop-n.n (record { 0 = 0 }) c.loop-n-test.true))

pub returns : goal.returns
returns c =
    let keys = keys_of c.args.cat.now c.args.q.now (plan c.args.p.now) in
    let long : length (class_numbers c.args.list.now) ≡ length c.args.list.now = length-map c.args.list.now (λ (x : ClassNo). x.0) in
    let done = c.loop-n-test.false in
    record { covered = (λ yes. covers-from keys (class_numbers c.args.list.now) (λ k lt. c.loop-n.invariant k (omega (arith, long, done, lt))), λ h. refl) }
