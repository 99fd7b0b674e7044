use Rattle.std.proofs.lemmas.Result.{IfOk-weaker}
use Rattle.query_reader.proofs.select.read_part.Goals as goal

pub returns-clause-well_bound : goal.returns-clause-well_bound
returns-clause-well_bound c = IfOk-weaker c.part.result _ _ (λ q is. is.well_bound) c.part.ensures.itself

pub returns-clause-classes : goal.returns-clause-classes
returns-clause-classes c = IfOk-weaker c.part.result _ _ (λ q is. is.classes) c.part.ensures.itself
