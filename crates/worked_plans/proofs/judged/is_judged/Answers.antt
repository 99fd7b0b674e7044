use Rattle.worked_plans.proofs.ExampleLemmas.{over-twice}
use Rattle.worked_plans.proofs.judged.is_judged.Goals as goal

pub validate-requires : goal.validate-requires
validate-requires c = record { query = over-twice c.args.cat.now c.args.q.now c.requires.texts c.requires.range c.requires.firsts }
