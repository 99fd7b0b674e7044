use Rattle.std.proofs.Common.{◌≡◌, drop}
use Rattle.std.specs.List.{position_from}
use Rattle.index_match.specs.work.Slots as slots
use Rattle.index_match.specs.work.Slots.{slots_of}
use Rattle.index_match.proofs.bounds.first_fixing.Given as goal

abbrev pub invariant-loop-n : goal.invariant-loop-n
invariant-loop-n l = position_from (slots.is_fixing_on l.m l.r.0 l.key) l.n (drop l.n (slots_of l.list)) ≡ position_from (slots.is_fixing_on l.m l.r.0 l.key) 0 (slots_of l.list)
