use Rattle.std.proofs.Common.{refl}
use Rattle.sql_grammar.specs.declared.class.Free.TheVariants.{Use}
use Rattle.statements.specs.work.Steps.{begins_use}
use Rattle.statements.proofs.ClaimLemmas.{begins-by, no-use}
use Rattle.statements.proofs.claims.is_use.Goals as goal

pub returns : goal.returns
returns c = begins-by Use begins_use (λ t ts. refl) no-use c.takes_free.result _ c.new-from.result c.takes_free.new.self c.new-from.ensures c.takes_free.ensures.took c.takes_free.ensures.other
