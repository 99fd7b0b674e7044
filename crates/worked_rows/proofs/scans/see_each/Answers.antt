use Rattle.std.proofs.Common.{arith, sym}
use Rattle.sql_query.specs.Worlds.{world}
use Rattle.plan_tree.specs.work.Views.{plan}
use Rattle.scan_exec.specs.work.Plans.{param_set}
use Rattle.merge_exec.proofs.JoinLemmas.{rows_lent}
use Rattle.worked_rows.proofs.scans.see_each.Goals as goal

pub start-requires-clause-outer : goal.start-requires-clause-outer
start-requires-clause-outer g c =
    rows_lent (world c.args.at.now.cat.now c.args.at.now.store.now.stored) c.args.at.now.q.now c.args.outer.now (param_set (plan c.args.p.now)) (sym c.requires.set) c.requires.held 0 c.get-first.result.now c.requires.some c.get-first.ensures.row c.get-first.ensures.width

pub restart-requires-clause-outer : goal.restart-requires-clause-outer
restart-requires-clause-outer g c =
    rows_lent (world c.args.at.now.cat.now c.args.at.now.store.now.stored) c.args.at.now.q.now c.args.outer.now (param_set (plan c.args.p.now)) (sym c.requires.set) c.requires.held c.loop-n.n c.get-tuple.result.now (omega (arith, c.loop-n-test.true, c.len-n-end.ensures)) c.get-tuple.ensures.row c.get-tuple.ensures.width
