use Rattle.std.proofs.Common.{length}
use Rattle.plan_check.proofs.RankLemmas.{ranked-by}
use Rattle.plan_check.proofs.ranking.ranked.Goals as goal

pub returns : goal.returns
returns c = ranked-by (length c.args.entries.now) c.in_ok-order.order.items c.sort.new.places.items c.in_ok-order.ensures c.in_ok-sort.ensures
