use Rattle.std.proofs.Common.{sym}
use Rattle.query_reader.specs.work.Scope.{visible_in}
use Rattle.group_reader.proofs.MeaningLemmas.{column-seen}
use Rattle.group_reader.proofs.bind.call.Goals as goal

pub typed-typed-requires : goal.typed-typed-requires
typed-typed-requires c = column-seen (visible_in c.args.relations.now) c.args.over.now c.in_ok-over.over (sym c.in_ok-over.ensures)
