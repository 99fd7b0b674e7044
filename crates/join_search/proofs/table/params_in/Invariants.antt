use Rattle.std.proofs.Common.{◌≡◌, take}
use Rattle.join_search.specs.work.Tables.{params_of}
use Rattle.join_search.proofs.table.params_in.Given as goal

abbrev pub invariant-loop-f : goal.invariant-loop-f
invariant-loop-f l = l.params.items ≡ params_of (take l.f-index l.places)
