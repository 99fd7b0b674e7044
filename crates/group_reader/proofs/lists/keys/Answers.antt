use Rattle.std.proofs.Common.{ap, arith, length}
use Rattle.query_reader.specs.work.Scope.{visible_in}
use Rattle.group_reader.specs.work.Meaning.{column_meant}
use Rattle.group_reader.proofs.WellLemmas.{few-bound}
use Rattle.group_reader.proofs.lists.keys.Goals as goal

pub returns-then-not-words-clause-few : goal.returns-then-not-words-clause-few
returns-then-not-words-clause-few c =
    few-bound (column_meant (visible_in c.args.relations.now)) c.deref.result.now c.columns.result c.columns.ensures (omega (arith, ap length c.deref.ensures.value, c.requires.written))
