use Rattle.plan_tree.specs.Plans.{leaf}
use Rattle.scan_cover.proofs.elements.keep.Goals as goal

pub returns-in-Index-clause-kept : goal.returns-in-Index-clause-kept
returns-in-Index-clause-kept c = (leaf c.in-Index.i, c.keep_index.ensures.kept)
