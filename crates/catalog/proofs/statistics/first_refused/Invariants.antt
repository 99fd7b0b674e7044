use Rattle.std.proofs.Common.{◌≡◌, ◌<◌, ℕ, false}
use Rattle.catalog.specs.work.Entries.{statistics}
use Rattle.catalog.specs.Statistics.{is_refused}
use Rattle.catalog.proofs.statistics.first_refused.Given as goal

abbrev pub invariant-loop-place : goal.invariant-loop-place
invariant-loop-place l = (n : ℕ) → n < l.place → is_refused (statistics l.s) n ≡ false
