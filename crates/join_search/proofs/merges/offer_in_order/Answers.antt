use Rattle.std.proofs.lemmas.Result.{on_ok_weaker}
use Rattle.join_search.proofs.merges.offer_in_order.Goals as goal

pub returns-clause-served : goal.returns-clause-served
returns-clause-served c = on_ok_weaker c.offer_merge.result (λ served e. served) c.offer_merge.ensures.served
