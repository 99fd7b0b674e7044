-- The certificates that those of the program stand for. Own.
use Rattle.plan_check.specs.Certificates.{Side}
use Rattle.plan_check.specs.declared.entry.Side.{Side as Sided}

-- an entry's number and whether it is sorted, as a side of a merge or a best plan
abbrev pub side : Sided → Side
side s = record { sorted = s.sort; entry = s.entry }
