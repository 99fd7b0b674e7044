use Rattle.std.proofs.Common.{ap, slice_get}
use Rattle.pathkeys.specs.Keys.{Keys}
use Rattle.pathkeys.proofs.OnceLemmas.{order_after_are}
use Rattle.pathkeys.proofs.query_order.order_key.Goals as goal

pub loop-at-init : goal.loop-at-init
loop-at-init c = ap (λ (ks : Keys). slice_get ks c.args.n) (order_after_are c.args.classes.now c.args.order.now)
