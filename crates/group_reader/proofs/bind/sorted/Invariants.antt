use Rattle.std.proofs.Common.{◌≡◌, drop}
use Rattle.expr_reader.specs.Lists.{bound_each}
use Rattle.query_reader.specs.work.Scope.{visible_in}
use Rattle.group_reader.specs.work.Meaning.{sorting_said}
use Rattle.group_reader.proofs.AddLemmas.{onward}
use Rattle.group_reader.proofs.bind.sorted.Given as goal

abbrev pub invariant-loop-written : goal.invariant-loop-written
invariant-loop-written l =
    let bind = sorting_said (visible_in l.relations) l.shown in
    onward bind l.all.items (bound_each bind (drop l.written-index l.sorts)) ≡ bound_each bind l.sorts
