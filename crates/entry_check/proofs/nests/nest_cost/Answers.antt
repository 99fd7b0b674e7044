use Rattle.std.proofs.Common.{ℕ, subst}
use Rattle.pg_base.specs.Sets.{has}
use Rattle.plan_tree.specs.Plans.{set_of}
use Rattle.plan_tree.specs.Space.{IsSameSet}
use Rattle.entry_check.proofs.CostLemmas.{nest-rule}
use Rattle.entry_check.proofs.nests.nest_cost.Goals as goal

pub returns : goal.returns
returns c = λ contents o i h k.
    nest-rule contents c.args.q.now c.args.outer c.args.inner o i c.operators_given-ops.result c.nest.result c.requires.outer c.requires.inner h k
    (c.operators_given-ops.ensures o i (subst (λ (n : ℕ). IsSameSet (set_of o) (has n)) c.requires.outer_set h.set) (subst (λ (n : ℕ). IsSameSet (set_of i) (has n)) c.requires.inner_set k.set) k.param) c.nest.ensures.rule
