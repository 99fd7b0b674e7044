use Rattle.plan_tree.specs.work.Views.{path}
use Rattle.plan_tree.proofs.PathLemmas.{built-below}
use Rattle.join_search.proofs.splits.path_rows.Goals as goal

pub estimate-requires-clause-reads : goal.estimate-requires-clause-reads
estimate-requires-clause-reads c = built-below c.args.cat.now c.args.q.now (path c.args.p.now).tree c.requires.path.plan.built
