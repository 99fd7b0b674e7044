use Rattle.std.proofs.Common.{◌∙◌, refl, sym}
use Rattle.std.proofs.lemmas.Bool.{true≢false}
use Rattle.certificate_entries.proofs.SetLemmas.{no-param}
use Rattle.certificate_entries.proofs.sets.read_param.Goals as goal

pub returns-else-eat-clause-only : goal.returns-else-eat-clause-only
returns-else-eat-clause-only c = λ s rest set stop other e.
    let r = no-param c.args.q.now s c.empty.result rest c.args.at.now c.empty.ensures (λ r is. true≢false (sym (c.if-eat.ensures.took r is).0)) e in
    (r.0, c.if-eat.ensures.left refl ∙ r.1)
