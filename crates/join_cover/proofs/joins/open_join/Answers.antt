use Rattle.std.proofs.Common.{◌≤◌, ℕ, arith}
use Rattle.plan_check.specs.work.Views.{certificate}
use Rattle.join_cover.specs.work.Serving.{AreJoinsOf}
use Rattle.join_cover.proofs.CoverLemmas.{joins-served}
use Rattle.pg_base.proofs.NumberLemmas.{each-below as below-next}
use Rattle.join_cover.proofs.joins.open_join.Goals as goal

pub loop-bits-preserved : goal.loop-bits-preserved
loop-bits-preserved c = λ x y lt le.
    below-next (λ x. (y : ℕ) → y ≤ c.all_relations-all.result.0 → AreJoinsOf c.args.j.now.cat.now c.args.j.now.q.now (certificate c.args.j.now.t.now) x y) c.loop-bits.bits (λ x lt y le. c.loop-bits.invariant x y lt le) c.in_default.ensures x lt y le

pub returns : goal.returns
returns c =
    joins-served c.args.j.now.cat.now c.args.j.now.q.now (certificate c.args.j.now.t.now) c.requires.right c.all_relations-all.result c.all_relations-all.ensures (λ x y lx ly. c.loop-bits.invariant x y (omega (arith, lx, c.loop-bits-test.false)) ly)
