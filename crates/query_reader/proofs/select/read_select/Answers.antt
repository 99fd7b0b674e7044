use Rattle.std.proofs.lemmas.Result.{IfOk-weaker}
use Rattle.query_reader.proofs.PartedLemmas.{select-parted}
use Rattle.query_reader.proofs.select.read_select.Goals as goal

pub returns-clause-well_bound : goal.returns-clause-well_bound
returns-clause-well_bound c = IfOk-weaker c.read_whole.result _ _ (λ q is. is.well_bound) c.read_whole.ensures.itself

pub returns-clause-classes : goal.returns-clause-classes
returns-clause-classes c = IfOk-weaker c.read_whole.result _ _ (λ q is. is.classes) c.read_whole.ensures.itself

pub returns-clause-parts : goal.returns-clause-parts
returns-clause-parts c = select-parted c.args.cat.now c.args.text.now c.args.tokens.now c.args.first c.read_whole.result c.requires.within c.read_whole.ensures.grammar c.read_whole.ensures.binding
