use Rattle.std.proofs.Common.{length, refl, sym, subst, ap, arith}
use Rattle.std.specs.Prelude.{not}
use Rattle.pg_base.specs.Sets.{has}
use Rattle.catalog.specs.Range.{Range}
use Rattle.path_cost.specs.work.Columns.{AreTables}
use Rattle.plan_laws.proofs.WellBoundLemmas.{bound-over}
use Rattle.group_explain.proofs.DistinctLemmas.{distinct-all}
use Rattle.group_explain.proofs.PlanTaskLemmas.{clauses-lent, none-covers, rows-are, task-is}
use Rattle.group_explain.proofs.plan_task.group_task.Goals as goal

pub rows-requires-clause-tables : goal.rows-requires-clause-tables
rows-requires-clause-tables c =
    let over = bound-over c.args.cat.now c.args.q.now c.requires.bound in
    subst (AreTables c.args.cat.now) (sym c.range_of.ensures) over.tables

pub rows-requires-clause-clauses : goal.rows-requires-clause-clauses
rows-requires-clause-clauses c =
    let over = bound-over c.args.cat.now c.args.q.now c.requires.bound in
    clauses-lent c.args.cat.now c.args.q.now c.range_of.result.now c.classes_of.result.now c.range_of.ensures c.classes_of.ensures over.clauses

pub rows-requires-clause-few : goal.rows-requires-clause-few
rows-requires-clause-few c =
    let over = bound-over c.args.cat.now c.args.q.now c.requires.bound in
    omega (arith, over.few, ap (λ (r : Range). length r) c.range_of.ensures)

pub returns-clause-task : goal.returns-clause-task
returns-clause-task c = record {
  rows = c.rows.ensures.estimate;
  distinct = distinct-all c.args.cat.now c.args.q.now c.lawful.ensures c.requires.bound c.args.asked.group_keys.now c.args.distinct.items c.requires.distinct;
}

pub returns-clause-is : goal.returns-clause-is
returns-clause-is c g same asked =
    let q = c.args.q.now in
    task-is c.args.cat.now q g c.args.asked.group_keys.now c.args.asked.line_keys.now c.args.asked.calls _ same asked
    (rows-are c.args.cat.now q c.range_of.result.now c.classes_of.result.now (has c.args.all.0) c.rows.result c.rows.ensures.rows c.range_of.ensures c.classes_of.ensures c.requires.all)
    c.requires.distinct refl (ap not c.covers.ensures.prefix) (ap not (none-covers c.items.result.now c.args.asked.line_keys.now c.is_empty.result c.is_empty.ensures c.items.ensures.list))
