use Rattle.std.proofs.Common.{◌≡◌, arith, subst}
use Rattle.plan_check.specs.work.Ranking.{AreFirstPlaces}
use Rattle.plan_check.proofs.RankLemmas.{no-places, place-more}
use Rattle.plan_check.proofs.ranking.places.Goals as goal

pub loop-k-init : goal.loop-k-init
loop-k-init c = no-places _ c.new-all.ensures.items

pub loop-k-preserved : goal.loop-k-preserved
loop-k-preserved c = place-more c.loop-k.all.items _ c.loop-k.k c.in_ok-push.ensures.items c.loop-k.invariant

pub returns : goal.returns
returns c = let end : c.loop-k.k ≡ c.args.count = omega arith in subst (AreFirstPlaces c.loop-k.all.items) end c.loop-k.invariant
