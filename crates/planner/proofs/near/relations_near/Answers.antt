use Rattle.pg_base.specs.Sets.{has}
use Rattle.pg_expr.specs.work.AtomSets.{contains}
use Rattle.planner.proofs.NearLemmas.{near-all}
use Rattle.planner.proofs.near.relations_near.Goals as goal

pub returns : goal.returns
returns c =
    near-all c.args.cat.now c.args.q.now c.requires.query c.args.r (contains c.conjuncts_of.result) (has c.others_named-conjuncts.result.0) (has c.named_with_any.result.0) (has c.union.result.0)
    c.conjuncts_of.ensures c.others_named-conjuncts.ensures c.named_with_any.ensures c.union.ensures
