use Rattle.pg_value.proofs.OrderLaws.{exchanged_at}
use Rattle.pg_value.proofs.comparison.commutator.Goals as goal

pub returns-clause-exchanged : goal.returns-clause-exchanged
returns-clause-exchanged c = exchanged_at c.args.op _ c.turned.ensures
