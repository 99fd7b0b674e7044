use Rattle.std.proofs.lemmas.Bool.Decides.{Decides-eqb}
use Rattle.std.proofs.lemmas.Slice.Eq.{strip_prefix_is}
use Rattle.plan_lines.proofs.KeyLemmas.{strip-is, strip-only}
use Rattle.plan_lines.proofs.relations.behind.Goals as goal

pub returns-clause-is : goal.returns-clause-is
returns-clause-is c = strip-is c.args.text.now c.args.bytes.now c.strip_prefix.result (strip_prefix_is Decides-eqb c.args.text.now c.args.bytes.now c.strip_prefix.result c.strip_prefix.ensures.cases)

pub returns-clause-only : goal.returns-clause-only
returns-clause-only c = strip-only c.args.text.now c.args.bytes.now c.strip_prefix.result (strip_prefix_is Decides-eqb c.args.text.now c.args.bytes.now c.strip_prefix.result c.strip_prefix.ensures.cases)
