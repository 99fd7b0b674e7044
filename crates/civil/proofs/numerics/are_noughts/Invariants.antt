use Rattle.std.proofs.Common.{◌≡◌, drop}
use Rattle.std.specs.List.{list_all}
use Rattle.civil.specs.Numerics.{is_nought}
use Rattle.civil.proofs.numerics.are_noughts.Given as goal

abbrev pub invariant-loop-n : goal.invariant-loop-n
invariant-loop-n l = list_all is_nought (drop l.n l.text) ≡ list_all is_nought l.text
