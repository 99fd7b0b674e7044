use Rattle.store.proofs.FitLemmas.{predicate-bound, values-fit}
use Rattle.store.proofs.rows.passes.Goals as goal

pub eval-requires-clause-bound : goal.eval-requires-clause-bound
eval-requires-clause-bound c = predicate-bound c.args.columns.now c.args.row.now c.requires.row c.args.predicate.now c.in-Some.e c.in-Some.is c.requires.predicate

pub eval-requires-clause-values : goal.eval-requires-clause-values
eval-requires-clause-values c = values-fit c.args.columns.now c.args.row.now c.requires.row
