use Rattle.std.proofs.Common.{◌≡◌, false, slice_index_or, take}
use Rattle.std.specs.List.{list_any}
use Rattle.catalog.specs.Statistics.{Common, is_equal, no_common}
use Rattle.catalog.proofs.statistics.stands_before.Given as goal

abbrev pub invariant-loop-n : goal.invariant-loop-n
invariant-loop-n l = list_any (λ (p : Common). is_equal p.0 (slice_index_or l.common l.k no_common).0) (take l.n l.common) ≡ false
