use Rattle.plan_tree.proofs.LikeLemmas.{given-like, rows-like, joins-like}
use Rattle.plan_tree.proofs.laws.like_plans.Goals as goal

pub returns : goal.returns
returns z = record { given = given-like; rows = rows-like; clauses = joins-like }
