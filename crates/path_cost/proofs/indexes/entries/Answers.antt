use Rattle.std.proofs.Common.{ap}
use Rattle.std.specs.Option.{option_map}
use Rattle.pg_expr.specs.work.View as view
use Rattle.catalog.specs.work.Entries.{index_of}
use Rattle.path_cost.proofs.PredicateLemmas.{predicate_typed}
use Rattle.path_cost.proofs.indexes.entries.Goals as goal

pub share_of-requires-clause-typed : goal.share_of-requires-clause-typed
share_of-requires-clause-typed c =
    predicate_typed c.args.cat.now c.args.i (index_of c.index-def.result.now) (view.cond c.in-Some.predicate) c.lawful.ensures c.requires.index c.index-def.ensures.value (ap (option_map view.cond) c.in-Some.is)
