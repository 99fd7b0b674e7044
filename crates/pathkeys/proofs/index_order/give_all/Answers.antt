use Rattle.std.proofs.Common.{◌++◌, ap}
use Rattle.pathkeys.specs.Keys.{Keys}
use Rattle.pathkeys.specs.work.Finding.{class_numbers}
use Rattle.pathkeys.proofs.StepLemmas.{keys_after_none}
use Rattle.pathkeys.proofs.index_order.give_all.Goals as goal

pub loop-at-init : goal.loop-at-init
loop-at-init c = ap (λ (ks : Keys). class_numbers c.args.items.now.items ++ ks) (keys_after_none c.args.classes.now c.args.r.0 c.args.backward c.args.columns.now)
