use Rattle.std.proofs.Common.{refl}
use Rattle.sql_grammar.specs.declared.class.Free.TheVariants.{Check}
use Rattle.statements.specs.work.Steps.{begins_check}
use Rattle.statements.proofs.ClaimLemmas.{begins-by, no-check}
use Rattle.statements.proofs.claims.is_check.Goals as goal

pub returns : goal.returns
returns c = begins-by Check begins_check (λ t ts. refl) no-check c.takes_free.result _ c.new-from.result c.takes_free.new.self c.new-from.ensures c.takes_free.ensures.took c.takes_free.ensures.other
