use Rattle.std.proofs.Common.{arith}
use Rattle.cost_rules.proofs.PowerLemmas.{log-is, few-doublings, least-at}
use Rattle.cost_rules.proofs.powers.log_up.Goals as goal

pub returns-clause-value : goal.returns-clause-value
returns-clause-value c = log-is c.args.base c.args.n c.loop-power.k c.requires.least_base (least-at c.args.base c.args.n c.loop-power.power c.loop-power.k (omega (arith, c.loop-power-test.false)) c.loop-power.invariant)

pub returns-clause-small : goal.returns-clause-small
returns-clause-small c = few-doublings c.args.base c.args.n c.loop-power.k c.requires.least_base c.requires.number.most (least-at c.args.base c.args.n c.loop-power.power c.loop-power.k (omega (arith, c.loop-power-test.false)) c.loop-power.invariant)
