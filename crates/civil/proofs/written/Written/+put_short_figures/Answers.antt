use Rattle.std.proofs.Common.{ℕ, List, ◌++◌, ap, ◌∙◌, arith}
use Rattle.civil.proofs.WrittenLemmas.{no-short-figures, short-rest, short-zero}
use Rattle.civil.proofs.written.Written.+put_short_figures.Goals as goal

pub returns-then-number-eq0-clause-text : goal.returns-then-number-eq0-clause-text
returns-then-number-eq0-clause-text t c =
    c.put_short_figures.ensures.text ∙ ap (λ (xs : List ℕ). c.args.self.now ++ xs) (short-zero c.args.count c.args.number c.if-count-gt0.true c.if-number-eq0.true)

pub returns-else-number-eq0-clause-text : goal.returns-else-number-eq0-clause-text
returns-else-number-eq0-clause-text t c =
    c.put_figures.ensures.text ∙ ap (λ (xs : List ℕ). c.args.self.now ++ xs) (short-rest c.args.count c.args.number c.if-count-gt0.true c.if-number-eq0.false)

pub returns-else-count-gt0-clause-text : goal.returns-else-count-gt0-clause-text
returns-else-count-gt0-clause-text t c = no-short-figures c.args.self.now c.args.count c.args.number (omega (arith, c.if-count-gt0.false))
