use Rattle.std.proofs.Common.{◌∙◌, refl}
use Rattle.join_search.proofs.likely.joined.Goals as goal

pub loop-n-init : goal.loop-n-init
loop-n-init c = record { placed = c.requires.placed; scans = λ s p single. refl }

pub loop-n-preserved : goal.loop-n-preserved
loop-n-preserved c = record { placed = c.in_ok-table.ensures.placed; scans = λ s p single. c.in_ok-table.ensures.scans s p single ∙ c.loop-n.invariant.scans s p single }
