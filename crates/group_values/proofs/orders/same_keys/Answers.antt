use Rattle.std.proofs.Common.{sym}
use Rattle.group_values.proofs.OrderLemmas.{other-length}
use Rattle.group_values.proofs.orders.same_keys.Goals as goal

pub returns-then-a-b : goal.returns-then-a-b
returns-then-a-b c = sym (other-length c.args.a.now c.args.b.now c.if-a-b.true)
