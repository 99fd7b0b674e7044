use Rattle.pgplan.proofs.TopLemmas.{complete_run, reached_run}
use Rattle.pgplan.proofs.top.run.Goals as goal

pub returns-in-Ok-clause-complete : goal.returns-in-Ok-clause-complete
returns-in-Ok-clause-complete g c = λ text known short sound.
    complete_run c.answer.result _ _ _ _ _ _ c.in-Ok.text.items text _ _ known c.in-Ok.ensures.bytes c.in-Ok.ensures.end
    (rw c.deref.ensures.value at c.answer.ensures.answers) sound

pub returns-in-Ok-clause-reached : goal.returns-in-Ok-clause-reached
returns-in-Ok-clause-reached g c = λ text known short reached.
    reached_run c.answer.result _ _ _ _ _ _ c.in-Ok.text.items text _ _ known c.in-Ok.ensures.bytes c.in-Ok.ensures.end
    (rw c.deref.ensures.value at c.answer.ensures.answers) reached
