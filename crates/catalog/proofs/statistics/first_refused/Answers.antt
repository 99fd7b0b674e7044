use Rattle.std.proofs.Common.{◌∙◌, sym, arith}
use Rattle.catalog.specs.work.Entries.{statistics}
use Rattle.catalog.proofs.StatisticsLemmas.{all-allowed, clean-more}
use Rattle.catalog.proofs.statistics.first_refused.Goals as goal

pub loop-place-preserved : goal.loop-place-preserved
loop-place-preserved c = clean-more (statistics c.args.s.now) c.loop-place.place c.loop-place.invariant (sym c.is_refused_at.ensures ∙ c.if-is_refused_at.false)

pub returns : goal.returns
returns c = all-allowed (statistics c.args.s.now) (λ n lt. c.loop-place.invariant n (omega (arith, lt, c.loop-place-test.false)))
