use Rattle.std.proofs.Common.{true≢false, sym}
use Rattle.plan_check.proofs.SameLemmas.{same-length}
use Rattle.plan_check.proofs.same_bits.+same.Goals as goal

pub are_same_trees-returns-then-a-b : goal.are_same_trees-returns-then-a-b
are_same_trees-returns-then-a-b t c = (λ no'. absurd (true≢false (sym no')), λ e. absurd (c.if-a-b.true (same-length c.args.a.now c.args.b.now e)))
