use Rattle.std.proofs.Common.{◌++◌, flat_map}
use Rattle.eq_classes.specs.Listing.{class_at}
use Rattle.eq_classes.specs.work.Listing.{clauses_of, inner_at}
use Rattle.eq_classes.proofs.SearchLemmas.{step_rows}
use Rattle.eq_classes.proofs.clauses.inner_rows.Goals as goal

pub loop-x-preserved : goal.loop-x-preserved
loop-x-preserved c =
    let cs = c.args.classes.now in
    let f = inner_at c.args.n (class_at cs c.args.n) in
    step_rows f c.args.members.now c.loop-x.x-index _ (clauses_of cs c.loop-x.out.items) (clauses_of cs c.inner_row.new.out.items)
    (clauses_of cs c.args.out.now.items ++ flat_map f c.args.members.now) c.loop-x-test.true (c.in_ok-inner_row.ensures {u = tt}) c.loop-x.invariant
