use Rattle.std.proofs.lemmas.Result.{on_ok_weaker}
use Rattle.join_search.proofs.merges.offer_if_early.Goals as goal

pub returns-clause-served : goal.returns-clause-served
returns-clause-served c = on_ok_weaker c.offer_side.result (λ served e lt. served) c.offer_side.ensures.served
