use Rattle.std.proofs.Common.{◌≡◌, ◌+◌, drop}
use Rattle.std.specs.List.{position_or_len}
use Rattle.eq_classes.specs.Equality.{is_column}
use Rattle.group_query.proofs.shape.place_in.Given as goal

abbrev pub invariant-loop-n : goal.invariant-loop-n
invariant-loop-n l = position_or_len (is_column l.x) l.keys ≡ l.n + position_or_len (is_column l.x) (drop l.n l.keys)
