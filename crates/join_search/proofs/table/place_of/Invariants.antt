use Rattle.std.proofs.Common.{◌≡◌, false, take}
use Rattle.std.specs.Prelude.{All}
use Rattle.join_search.specs.work.Tables.{is_at}
use Rattle.join_search.proofs.table.place_of.Given as goal

abbrev pub invariant-loop-n : goal.invariant-loop-n
invariant-loop-n l = All (λ x. is_at l.p x ≡ false) (take l.n l.places)
