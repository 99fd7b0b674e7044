use Rattle.std.proofs.Common.{◌+◌, ◌∙◌, ap, arith, length, option_map, refl, sym}
use Rattle.pg_base.specs.Sets.{has}
use Rattle.pg_base.specs.declared.numbers.Tid.{Tid}
use Rattle.heap.specs.work.Tuples.{padded}
use Rattle.sql_query.specs.Queries.{width}
use Rattle.sql_query.specs.Worlds.{world}
use Rattle.plan_tree.specs.Counts.{fetches, looks}
use Rattle.plan_tree.specs.Run.{run}
use Rattle.plan_tree.specs.work.Views.{plan}
use Rattle.scan_exec.specs.work.Plans.{param_set, relation_of}
use Rattle.scan_exec.proofs.DrainLemmas.{behind_short, drain_begins, drain_on, drained, drained_exact, no_tuples, one_long, rows_owed, rows_run, set_one}
use Rattle.scan_exec.proofs.KindLemmas.{relation_below}
use Rattle.scan_exec.proofs.drain.scan.Goals as goal

pub loop-tid-init : goal.loop-tid-init
loop-tid-init g c =
    let w = world c.args.cat.now c.args.store.now.stored in
    let q = c.args.q.now in
    let p = plan c.args.p.now in
    let o = padded (width q) (has (param_set p).0) c.args.outer.now in
    let one = set_one c.new-tuples.result c.one.result c.relation_of.result (relation_of p) c.new-tuples.ensures c.relation_of.ensures c.one.ensures in
    drain_begins q (relation_of p).0 c.new-tuples.result.set one (run w q p o) (c.args.fetches.now + fetches w q p o) (c.args.reads.now + looks w q p o) c.new-tuples.result c.in_ok-rows.rows c.args.fetches.now c.start.new.reads (no_tuples c.new-tuples.result c.one.result c.new-tuples.ensures)
    (rows_run w q p o c.requires.scan c.in_ok-rows.rows c.in_ok-rows.ensures.coming) (rows_owed w q p o c.requires.scan c.in_ok-rows.rows c.in_ok-rows.ensures.coming c.args.fetches.now) c.in_ok-rows.ensures.looks

pub add-requires : goal.add-requires
add-requires g c =
    let w = world c.args.cat.now c.args.store.now.stored in
    let q = c.args.q.now in
    let p = plan c.args.p.now in
    let o = padded (width q) (has (param_set p).0) c.args.outer.now in
    let one = set_one c.new-tuples.result c.one.result c.relation_of.result (relation_of p) c.new-tuples.ensures c.relation_of.ensures c.one.ensures in
    let few = c.requires.bound.range.few in
    one_long c.new-tuples.result.set (relation_of p).0 (width q) one (relation_below c.args.cat.now c.args.store.now q p (relation_of p) (param_set p) c.args.outer.now c.args.store.now.stored refl refl refl p c.requires.scan c.requires.built) (omega (arith, few)) c.loop-tid.tuples.set c.loop-tid.invariant.set_is c.in-Some.tid

pub loop-tid-smaller : goal.loop-tid-smaller
loop-tid-smaller g c =
    let lt = behind_short c.loop-tid.rows c.in-Some.tid.0 c.in-Some.ensures.row in
    let e = ap length c.in-Some.ensures.rest in
    omega (arith, lt, e)

pub loop-tid-preserved : goal.loop-tid-preserved
loop-tid-preserved g c =
    let w = world c.args.cat.now c.args.store.now.stored in
    let q = c.args.q.now in
    let p = plan c.args.p.now in
    let o = padded (width q) (has (param_set p).0) c.args.outer.now in
    let one = set_one c.new-tuples.result c.one.result c.relation_of.result (relation_of p) c.new-tuples.ensures c.relation_of.ensures c.one.ensures in
    drain_on q (relation_of p).0 c.new-tuples.result.set one (run w q p o) (c.args.fetches.now + fetches w q p o) (c.args.reads.now + looks w q p o) c.loop-tid.tuples c.loop-tid.rows c.next.new.self c.loop-tid.fetches c.loop-tid.reads c.next.new.fetches c.next.new.reads c.loop-tid.invariant c.in-Some.ensures.rest c.in-Some.ensures.exact c.in-Some.ensures.looked c.in-Some.tid c.in-Some.ensures.row c.add.new.self c.in_ok-add.ensures.added

pub returns-clause-tuples : goal.returns-clause-tuples
returns-clause-tuples g c =
    let w = world c.args.cat.now c.args.store.now.stored in
    let q = c.args.q.now in
    let p = plan c.args.p.now in
    let o = padded (width q) (has (param_set p).0) c.args.outer.now in
    let one = set_one c.new-tuples.result c.one.result c.relation_of.result (relation_of p) c.new-tuples.ensures c.relation_of.ensures c.one.ensures in
    drained q (relation_of p).0 c.new-tuples.result.set one (run w q p o) (c.args.fetches.now + fetches w q p o) (c.args.reads.now + looks w q p o) c.loop-tid.tuples c.loop-tid.rows c.next.new.self c.loop-tid.fetches c.loop-tid.reads c.next.new.fetches c.next.new.reads c.loop-tid.invariant c.next.ensures.rest c.next.ensures.exact c.next.ensures.looked (sym (ap (option_map (λ (t : Tid). t.0)) c.in_default.is) ∙ c.next.ensures.row)

pub returns-clause-exact : goal.returns-clause-exact
returns-clause-exact g c =
    let w = world c.args.cat.now c.args.store.now.stored in
    let q = c.args.q.now in
    let p = plan c.args.p.now in
    let o = padded (width q) (has (param_set p).0) c.args.outer.now in
    let one = set_one c.new-tuples.result c.one.result c.relation_of.result (relation_of p) c.new-tuples.ensures c.relation_of.ensures c.one.ensures in
    drained_exact q (relation_of p).0 c.new-tuples.result.set one (run w q p o) (c.args.fetches.now + fetches w q p o) (c.args.reads.now + looks w q p o) c.loop-tid.tuples c.loop-tid.rows c.next.new.self c.loop-tid.fetches c.loop-tid.reads c.next.new.fetches c.next.new.reads c.loop-tid.invariant c.next.ensures.rest c.next.ensures.exact c.next.ensures.looked (sym (ap (option_map (λ (t : Tid). t.0)) c.in_default.is) ∙ c.next.ensures.row)
