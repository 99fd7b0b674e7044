use Rattle.std.proofs.Common.{◌≡◌, drop}
use Rattle.expr_reader.specs.Lists.{bound_each}
use Rattle.query_reader.specs.work.Scope.{visible_in}
use Rattle.group_reader.specs.work.Meaning.{column_meant}
use Rattle.group_reader.proofs.AddLemmas.{onward}
use Rattle.group_reader.proofs.bind.columns.Given as goal

abbrev pub invariant-loop-one : goal.invariant-loop-one
invariant-loop-one l =
    let bind = column_meant (visible_in l.relations) in
    onward bind l.all.items (bound_each bind (drop l.one-index l.written)) ≡ bound_each bind l.written
