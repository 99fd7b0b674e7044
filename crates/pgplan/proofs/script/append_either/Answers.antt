use Rattle.std.proofs.lemmas.Result.{on_ok_weaker}
use Rattle.pgplan.proofs.TextLemmas.{both}
use Rattle.pgplan.proofs.script.append_either.Goals as goal

pub returns : goal.returns
returns c = on_ok_weaker c.append_between-2.result (λ more. both _ _ _ _ _ c.in_ok-append_between.ensures more) c.append_between-2.ensures
