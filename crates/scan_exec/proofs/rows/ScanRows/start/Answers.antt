use Rattle.scan_exec.specs.work.Rows.{rows_of_kind}
use Rattle.scan_exec.specs.work.Coming.{looks_allowed}
use Rattle.plan_tree.specs.work.Views.{plan}
use Rattle.scan_exec.proofs.KindLemmas.{comes_at, looks_within, most_within, over_heaps, reads_within, rows_in_heaps, scene_is}
use Rattle.scan_exec.proofs.rows.ScanRows.start.Goals as goal

pub read_given-requires-clause-over : goal.read_given-requires-clause-over
read_given-requires-clause-over g c = over_heaps c.args.cat.now c.args.store.now c.args.q.now (plan c.args.p.now) c.relation_of-rel.result c.param_of-param.result c.args.outer.now c.heaps-heaps.result.now c.relation_of-rel.ensures c.param_of-param.ensures c.heaps-heaps.ensures c.requires.bound c.requires.store

pub read_given-requires-clause-rows : goal.read_given-requires-clause-rows
read_given-requires-clause-rows g c = rows_in_heaps c.args.cat.now c.args.store.now c.args.q.now (plan c.args.p.now) c.relation_of-rel.result c.param_of-param.result c.args.outer.now c.heaps-heaps.result.now c.relation_of-rel.ensures c.param_of-param.ensures c.heaps-heaps.ensures c.requires.outer

pub by_plan-requires-clause-scene : goal.by_plan-requires-clause-scene
by_plan-requires-clause-scene g c = scene_is c.args.cat.now c.args.store.now c.args.q.now (plan c.args.p.now) c.relation_of-rel.result c.param_of-param.result c.args.outer.now c.heaps-heaps.result.now c.relation_of-rel.ensures c.param_of-param.ensures c.heaps-heaps.ensures c.requires.bound c.requires.store c.requires.scan c.requires.built c.requires.outer c.in_ok-given.given c.in_ok-given.ensures.given

pub returns-clause-coming : goal.returns-clause-coming
returns-clause-coming g c = comes_at c.args.cat.now c.args.store.now c.args.q.now (plan c.args.p.now) c.relation_of-rel.result c.param_of-param.result c.args.outer.now c.heaps-heaps.result.now c.relation_of-rel.ensures c.param_of-param.ensures c.heaps-heaps.ensures (rows_of_kind c.in_ok-kind.kind) c.in_ok-kind.ensures.coming

pub returns-clause-looks : goal.returns-clause-looks
returns-clause-looks g c = looks_within c.args.cat.now c.args.store.now c.args.q.now (plan c.args.p.now) c.relation_of-rel.result c.param_of-param.result c.args.outer.now c.heaps-heaps.result.now c.relation_of-rel.ensures c.param_of-param.ensures c.heaps-heaps.ensures c.args.reads.now c.read_given.new.reads c.by_plan.new.reads (looks_allowed (rows_of_kind c.in_ok-kind.kind)) c.read_given.ensures.most c.in_ok-kind.ensures.looks

pub returns-clause-most : goal.returns-clause-most
returns-clause-most g c = most_within c.args.cat.now c.args.store.now c.args.q.now (plan c.args.p.now) c.relation_of-rel.result c.param_of-param.result c.args.outer.now c.heaps-heaps.result.now c.relation_of-rel.ensures c.param_of-param.ensures c.heaps-heaps.ensures c.args.reads.now c.read_given.new.reads c.by_plan.new.reads c.read_given.ensures.most c.by_plan.ensures.most

pub returns-in_err-kind-clause-most : goal.returns-in_err-kind-clause-most
returns-in_err-kind-clause-most g c = most_within c.args.cat.now c.args.store.now c.args.q.now (plan c.args.p.now) c.relation_of-rel.result c.param_of-param.result c.args.outer.now c.heaps-heaps.result.now c.relation_of-rel.ensures c.param_of-param.ensures c.heaps-heaps.ensures c.args.reads.now c.read_given.new.reads c.by_plan.new.reads c.read_given.ensures.most c.by_plan.ensures.most

pub returns-in_err-given-clause-most : goal.returns-in_err-given-clause-most
returns-in_err-given-clause-most g c = reads_within c.args.cat.now c.args.store.now c.args.q.now (plan c.args.p.now) c.relation_of-rel.result c.param_of-param.result c.args.outer.now c.heaps-heaps.result.now c.relation_of-rel.ensures c.param_of-param.ensures c.heaps-heaps.ensures c.requires.scan c.requires.built c.args.reads.now c.read_given.new.reads c.read_given.ensures.most
