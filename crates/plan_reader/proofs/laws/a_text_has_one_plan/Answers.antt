use Rattle.plan_reader.proofs.UniqueLemmas.{one-plan}
use Rattle.plan_reader.proofs.laws.a_text_has_one_plan.Goals as goal

pub returns : goal.returns
returns c = one-plan
