use Rattle.std.proofs.Common.{sym, ◌∙◌, map}
use Rattle.sort_rows.proofs.OrderLemmas.{step_equal, step_other}
use Rattle.sort_rows.proofs.keys.compare_keys.Goals as goal

pub returns-in_default : goal.returns-in_default
returns-in_default c =
    sym (step_other c.args.columns.now (map (λ v. v.now) c.args.a.now) (map (λ v. v.now) c.args.b.now) c.loop-i.i _ c.loop-i-test.true c.compare_at.result c.compare_at.ensures c.in_default.not-Equal) ∙ c.loop-i.invariant

pub loop-i-preserved : goal.loop-i-preserved
loop-i-preserved c =
    sym (step_equal c.args.columns.now (map (λ v. v.now) c.args.a.now) (map (λ v. v.now) c.args.b.now) c.loop-i.i _ c.loop-i-test.true c.in-Equal.ensures) ∙ c.loop-i.invariant
