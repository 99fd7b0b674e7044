use Rattle.std.proofs.Common.{◌≡◌, ◌<◌, ◌≤◌, ◌+◌, ℕ, arith, suc, subst, subst₂}
use Rattle.plan_check.specs.work.Views.{certificate}
use Rattle.plan_check.specs.work.Placing.{IsOf, place_at}
use Rattle.plan_check.specs.declared.verdict.Plain.TheVariants as plain
use Rattle.join_cover.specs.work.Serving.{IsNestServed, IsOpen}
use Rattle.join_cover.proofs.MergeLemmas.{below-from, there-at}
use Rattle.join_cover.proofs.nests.open_outer.Goals as goal

pub open_inner-requires-clause-outer : goal.open_inner-requires-clause-outer
open_inner-requires-clause-outer c = there-at (certificate c.args.j.now.t.now).entries c.args.j.now.places.now c.loop-i.i _ c.requires.placed (omega (arith, c.loop-i-test.true, c.requires.outer)) c.at-k.ensures

pub loop-i-preserved : goal.loop-i-preserved
loop-i-preserved c = λ m n le lt.
    let es = (certificate c.args.j.now.t.now).entries in
    let p = c.args.j.now.places.now in
    below-from (λ m. (n : ℕ) → c.args.inner.0 ≤ n → n < c.args.inner.1 → IsOf es c.args.work.now.outer.0 (place_at p m) → IsOf es c.args.work.now.inner.0 (place_at p n) → IsNestServed c.args.j.now.cat.now c.args.j.now.q.now (certificate c.args.j.now.t.now) (place_at p m) (place_at p n)) c.args.outer.0 c.loop-i.i
    (λ m le lt n. c.loop-i.invariant m n le lt)
    (subst (λ m. (n : ℕ) → c.args.inner.0 ≤ n → n < c.args.inner.1 → IsOf es c.args.work.now.outer.0 m → IsOf es c.args.work.now.inner.0 (place_at p n) → IsNestServed c.args.j.now.cat.now c.args.j.now.q.now (certificate c.args.j.now.t.now) m (place_at p n)) c.at-k.ensures
    (λ n le lt is is'. c.in_default.ensures n le lt is is')) m le lt n

pub returns-in-Some : goal.returns-in-Some
returns-in-Some c =
    let k = c.at-k.result in
    let l = c.in-Some.l in
    let one : suc k ≡ k + 1 = omega arith in
    let two : suc l ≡ l + 1 = omega arith in
    let found = c.in-Some.ensures.1 in (
      (record { place = k; is = omega arith; of = found.0 }, record { place = l; is = omega arith; of = found.1 }),
      subst₂ (λ m n. IsOpen c.args.j.now.cat.now c.args.j.now.q.now (certificate c.args.j.now.t.now) (plain.Nest m n) c.in-Some.x) one two found.2,
    )

pub returns : goal.returns
returns c = λ m n le lt. c.loop-i.invariant m n le (omega (arith, lt, c.loop-i-test.false))
