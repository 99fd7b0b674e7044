use Rattle.std.proofs.lemmas.Result.{on_ok_weaker}
use Rattle.join_search.proofs.nests.offer_if_early.Goals as goal

pub returns-clause-served : goal.returns-clause-served
returns-clause-served c = on_ok_weaker c.offer_nests_of.result (λ served lt. served) c.offer_nests_of.ensures.served
