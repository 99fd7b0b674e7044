use Rattle.std.proofs.Common.{◌∙◌, sym}
use Rattle.std.proofs.lemmas.Bool.{true≢false}
use Rattle.pathkeys.specs.work.Finding.{class_numbers}
use Rattle.certificate_entries.proofs.DifferentLemmas.{one-more}
use Rattle.certificate_entries.proofs.keys.stands_before.Goals as goal

pub loop-i-preserved : goal.loop-i-preserved
loop-i-preserved c = one-more (class_numbers c.args.keys.now) c.args.n c.loop-i.i c.loop-i.invariant (λ e. true≢false (sym (c.is_same.ensures.1 e) ∙ c.if-is_same.false))
