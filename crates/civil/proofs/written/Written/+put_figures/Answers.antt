use Rattle.std.proofs.Common.{refl, arith}
use Rattle.civil.proofs.WrittenLemmas.{figures-more, no-figures}
use Rattle.civil.proofs.written.Written.+put_figures.Goals as goal

pub returns-then-count-gt0-clause-text : goal.returns-then-count-gt0-clause-text
returns-then-count-gt0-clause-text t c =
    figures-more c.args.self.now c.put_figures.new.self c.put.new.self c.args.count c.args.number _ c.if-count-gt0.true c.put_figures.ensures.text refl c.put.ensures.text

pub returns-else-count-gt0-clause-text : goal.returns-else-count-gt0-clause-text
returns-else-count-gt0-clause-text t c = no-figures c.args.self.now c.args.count c.args.number (omega (arith, c.if-count-gt0.false))
