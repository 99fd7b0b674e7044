use Rattle.pg_base.specs.Sets.{has}
use Rattle.pg_expr.specs.work.AtomSets.{contains}
use Rattle.scan_paths.proofs.ReachLemmas.{reach-of}
use Rattle.scan_paths.proofs.reached.reach.Goals as goal

pub returns : goal.returns
returns c =
    reach-of c.args.cat.now c.args.q.now c.args.r c.args.i (contains c.clauses_of_use.result) (has c.others_named.result.0) c.clauses_of_use.ensures c.others_named.ensures
