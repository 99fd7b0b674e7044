use Rattle.std.proofs.Common.{Some, ap}
use Rattle.worked_values.specs.work.Likings.{liked-between}
use Rattle.worked_values.proofs.advice.LikingsPricer.price.Goals as goal

pub returns-clause-price : goal.returns-clause-price
returns-clause-price c = λ t least most. liked-between c.args.q c.args.s (Some c.liked.result) t (ap Some c.liked.ensures.price) least most
