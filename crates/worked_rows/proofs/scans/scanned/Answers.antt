use Rattle.std.proofs.lemmas.Result.{IfOk-weaker}
use Rattle.pg_base.specs.Sets.{has}
use Rattle.heap.specs.work.Tuples.{padded_tuples}
use Rattle.sql_query.specs.Queries.{width}
use Rattle.sql_query.specs.Worlds.{world}
use Rattle.plan_tree.specs.work.Views.{plan}
use Rattle.worked_rows.proofs.SideLemmas.{no_outer_rows, rows_of_scan, set_of_scan}
use Rattle.worked_rows.proofs.scans.scanned.Goals as goal

pub scan-requires-clause-outer : goal.scan-requires-clause-outer
scan-requires-clause-outer g c = no_outer_rows (world c.args.at.now.cat.now c.args.at.now.store.now.stored) c.args.at.now.q.now (plan c.args.p.now) c.requires.scan c.requires.whole

pub returns-clause-set : goal.returns-clause-set
returns-clause-set g c = IfOk-weaker c.scan.result _ _ (λ ts is. set_of_scan (plan c.args.p.now) c.requires.scan (has ts.set.0) is) c.scan.ensures.set

pub returns-clause-rows : goal.returns-clause-rows
returns-clause-rows g c =
    let w = world c.args.at.now.cat.now c.args.at.now.store.now.stored in
    let q = c.args.at.now.q.now in
    IfOk-weaker c.scan.result _ _ (λ ts is. rows_of_scan w q (plan c.args.p.now) c.requires.scan c.requires.whole (padded_tuples (width q) ts) is) c.scan.ensures.tuples
