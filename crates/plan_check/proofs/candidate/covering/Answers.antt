use Rattle.plan_check.specs.work.Beating.{candidate}
use Rattle.plan_check.proofs.PlacedLemmas.{covering-none}
use Rattle.plan_check.proofs.candidate.covering.Goals as goal

pub returns-clause-none : goal.returns-clause-none
returns-clause-none c =
    covering-none c.args.q.now.window c.args.entries.now c.args.places.now c.range-within.result.0 c.range-within.result.1 (candidate c.args.x.now) c.covering_in.result c.requires.placed c.range-within.ensures.first c.range-within.ensures.past c.covering_in.ensures.none
