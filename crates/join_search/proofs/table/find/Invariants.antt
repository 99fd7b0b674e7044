use Rattle.std.proofs.Common.{◌≡◌, false, take}
use Rattle.std.specs.Prelude.{All}
use Rattle.join_search.specs.work.Tables.{is_at}
use Rattle.join_search.proofs.table.find.Given as goal

abbrev pub invariant-loop-f : goal.invariant-loop-f
invariant-loop-f l = All (λ x. is_at l.p x ≡ false) (take l.f-index l.places)
