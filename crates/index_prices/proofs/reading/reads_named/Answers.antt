use Rattle.std.proofs.Common.{◌∙◌, ap}
use Rattle.plan_laws.specs.work.Fewer.{reads}
use Rattle.plan_tree.specs.work.Views.{plan}
use Rattle.index_prices.proofs.NameLemmas.{name-there, one-index}
use Rattle.index_prices.proofs.reading.reads_named.Goals as goal

pub returns-in-Some : goal.returns-in-Some
returns-in-Some c = λ i named read.
    c.reads.ensures ∙ ap (reads (plan c.args.p.now)) (one-index c.args.cat.now c.args.name.now c.lawful.ensures.indexes_differ c.in-Some.i i c.in-Some.ensures.meaning named) ∙ read

pub returns-in-None : goal.returns-in-None
returns-in-None c = λ i named read. absurd (c.in-None.ensures.meaning (name-there c.args.cat.now c.args.name.now i named))
