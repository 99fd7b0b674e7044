use Rattle.std.proofs.lemmas.Result.{on_ok_weaker}
use Rattle.pgplan.proofs.TextLemmas.{data-all, state-all}
use Rattle.pgplan.proofs.script.append_data.Goals as goal

pub returns-clause-text : goal.returns-clause-text
returns-clause-text c =
    on_ok_weaker c.append_copy-3.result (λ more. data-all _ _ _ _ _ _ _ c.in_ok-append_copy.ensures.state c.in_ok-append_copy-2.ensures.state c.in_ok-append_copy.ensures.text c.in_ok-append_copy-2.ensures.text more)
    c.append_copy-3.ensures.text

pub returns-clause-state : goal.returns-clause-state
returns-clause-state c = on_ok_weaker c.append_copy-3.result (λ more. state-all _ _ _ _ c.in_ok-append_copy.ensures.state c.in_ok-append_copy-2.ensures.state more) c.append_copy-3.ensures.state
