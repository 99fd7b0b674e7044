use Rattle.std.proofs.Common.{ap, slice_get}
use Rattle.pathkeys.specs.Keys.{Keys}
use Rattle.pathkeys.proofs.StepLemmas.{keys_after_none}
use Rattle.pathkeys.proofs.index_order.given_at.Goals as goal

pub loop-at-init : goal.loop-at-init
loop-at-init c = ap (λ (ks : Keys). slice_get ks c.args.n) (keys_after_none c.args.classes.now c.args.r.0 c.args.backward c.args.columns.now)
