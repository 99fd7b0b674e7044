use Rattle.eq_classes.proofs.UniqueLemmas.{table_one}
use Rattle.plan_laws.proofs.classes.tables_are_one.Goals as goal

pub returns : goal.returns
returns c = table_one
