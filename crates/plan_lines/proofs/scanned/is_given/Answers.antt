use Rattle.std.proofs.Common.{◌∙◌, [], sym}
use Rattle.std.proofs.lemmas.Bool.{true≢false}
use Rattle.std.proofs.lemmas.List.{append-nil}
use Rattle.plan_lines.proofs.ScannedLemmas.{none-mapped}
use Rattle.certificate_entries.specs.explain_Texts.{given_text}
use Rattle.plan_lines.proofs.scanned.is_given.Goals as goal

pub returns-in-None : goal.returns-in-None
returns-in-None c = (λ wrong. absurd (true≢false (sym wrong)), λ e. absurd (none-mapped (λ l. l.now) c.behind_given.result [] c.in-None.is (c.behind_given.ensures.only [] (e ∙ sym (append-nil (given_text c.args.q.now.range c.args.p))))))
