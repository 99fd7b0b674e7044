use Rattle.plan_laws.proofs.WellBoundLemmas.{bound-over}
use Rattle.worked_rows.proofs.plans.see_tuples.Goals as goal

pub validate-requires : goal.validate-requires
validate-requires g c = record { query = bound-over c.args.at.now.cat.now c.args.at.now.q.now c.requires.bound }
