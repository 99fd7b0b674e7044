use Rattle.std.proofs.Common.{◌≡◌, take}
use Rattle.pg_base.specs.Sets.{has}
use Rattle.plan_laws.specs.Moved.{added_from}
use Rattle.index_prices.specs.Replies.{use_lines}
use Rattle.index_prices.proofs.text.use_lines.Given as goal

abbrev pub invariant-loop-j : goal.invariant-loop-j
invariant-loop-j l = l.text.items ≡ use_lines (added_from 0 (has l.set) (take l.j l.candidates))
