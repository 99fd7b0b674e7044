use Rattle.std.proofs.Common.{◌≡◌, ◌≤◌, ◌∙◌, length, sym, arith, true≢false}
use Rattle.plan_tree.specs.Bitmaps.{elements_of}
use Rattle.plan_tree.specs.work.Views.{bits, bits_all}
use Rattle.plan_space.proofs.TreeLemmas.{elements-long}
use Rattle.plan_space.proofs.trees.are_over.Goals as goal

pub returns-then-trees-lt2 : goal.returns-then-trees-lt2
returns-then-trees-lt2 c = λ p. (
  λ wrong. absurd (true≢false (sym wrong)),
  λ h.
      let long : length (elements_of c.args.cat.now c.args.q.now c.args.r.0 p (bits_all c.args.trees.now)) ≡ length c.args.trees.now = elements-long c.args.cat.now c.args.q.now c.args.r.0 p bits c.args.trees.now in
      let two : 2 ≤ length (elements_of c.args.cat.now c.args.q.now c.args.r.0 p (bits_all c.args.trees.now)) = h.2 in
      absurd (omega arith),
)

pub returns-then-not-are_in_order : goal.returns-then-not-are_in_order
returns-then-not-are_in_order c = λ p. (
  λ wrong. absurd (true≢false (sym wrong)),
  λ h. absurd (true≢false (sym ((c.are_in_order.ensures c.args.cat.now c.args.q.now c.args.r.0 p).1 (h.0, h.1)) ∙ c.if-not-are_in_order.true)),
)

pub returns : goal.returns
returns c = λ p. (
  λ h.
      let order = (c.are_in_order.ensures c.args.cat.now c.args.q.now c.args.r.0 p).0 c.if-not-are_in_order.false in
      let long : length (elements_of c.args.cat.now c.args.q.now c.args.r.0 p (bits_all c.args.trees.now)) ≡ length c.args.trees.now = elements-long c.args.cat.now c.args.q.now c.args.r.0 p bits c.args.trees.now in
      let two : 2 ≤ length (elements_of c.args.cat.now c.args.q.now c.args.r.0 p (bits_all c.args.trees.now)) = omega arith in
      (order.0, order.1, two, (c.have_arms.ensures p).0 h),
  λ h. (c.have_arms.ensures p).1 h.3,
)
