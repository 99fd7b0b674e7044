use Rattle.std.proofs.Common.{refl}
use Rattle.plan_tree.specs.work.Views.{plan}
use Rattle.plan_tree.proofs.CostableLemmas.{built-costable}
use Rattle.plan_laws.proofs.WellBoundLemmas.{bound-over}
use Rattle.worked_rows.proofs.joins.are_sides.Goals as goal

pub is_merge-requires-clause-query : goal.is_merge-requires-clause-query
is_merge-requires-clause-query g c = bound-over c.args.at.now.cat.now c.args.at.now.q.now c.requires

pub is_merge-requires-clause-outer : goal.is_merge-requires-clause-outer
is_merge-requires-clause-outer g c = built-costable c.args.at.now.cat.now c.args.at.now.q.now (plan c.args.outer.now) (c.if-not-is_whole_scan.ensures.built refl)

pub is_merge-requires-clause-inner : goal.is_merge-requires-clause-inner
is_merge-requires-clause-inner g c = built-costable c.args.at.now.cat.now c.args.at.now.q.now (plan c.args.inner.now) (c.if-not-is_whole_scan-2.ensures.built refl)
