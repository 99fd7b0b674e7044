use Rattle.std.proofs.Common.{inr, refl, sym, ◌∙◌}
use Rattle.std.proofs.lemmas.Bool.{true≢false}
use Rattle.plan_space.proofs.judged.judge_built.Goals as goal

pub returns-then-not-validate : goal.returns-then-not-validate
returns-then-not-validate c = inr (c.requires.built, λ done. true≢false (sym (c.validate.ensures.valid.1 done) ∙ c.if-not-validate.true), refl)
