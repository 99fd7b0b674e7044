use Rattle.plan_tree.specs.work.Views.{plan}
use Rattle.executor.specs.work.EState.{world_of}
use Rattle.executor.proofs.ScanLemmas.{drawn_below, no_outer, scan_opens, started_coming, started_left, started_owed}
use Rattle.executor.proofs.scanning.start_scanning.Goals as goal

pub start-requires-clause-outer : goal.start-requires-clause-outer
start-requires-clause-outer g c = no_outer (world_of c.args.at.now) c.args.at.now.q.now (plan c.args.p.now) c.requires.scan c.requires.plan.whole

pub returns-clause-good : goal.returns-clause-good
returns-clause-good g c = record {
  scan = c.requires.scan;
  below = drawn_below (world_of c.args.at.now) c.args.at.now.q.now (plan c.args.p.now) c.requires.over.bound c.requires.plan.built;
}

pub returns-clause-left : goal.returns-clause-left
returns-clause-left g c = started_left (world_of c.args.at.now) c.args.at.now.q.now (plan c.args.p.now) c.in_ok-rows.rows c.requires.scan c.requires.plan.whole c.in_ok-rows.ensures.coming

pub returns-clause-owed : goal.returns-clause-owed
returns-clause-owed g c = started_owed (world_of c.args.at.now) c.args.at.now.q.now (plan c.args.p.now) c.in_ok-rows.rows c.requires.scan c.requires.plan.whole c.in_ok-rows.ensures.coming

pub returns-clause-coming : goal.returns-clause-coming
returns-clause-coming g c = started_coming (world_of c.args.at.now) c.args.at.now.q.now (plan c.args.p.now) c.in_ok-rows.rows c.requires.scan c.requires.plan.whole c.in_ok-rows.ensures.coming

pub returns-clause-opening : goal.returns-clause-opening
returns-clause-opening g c = scan_opens (world_of c.args.at.now) c.args.at.now.q.now (plan c.args.p.now) c.requires.scan
