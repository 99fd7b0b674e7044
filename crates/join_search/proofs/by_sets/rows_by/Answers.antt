use Rattle.std.proofs.Common.{◌∙◌, sym}
use Rattle.plan_tree.specs.work.Views.{path}
use Rattle.join_search.specs.work.Tables.{none, paths_at}
use Rattle.join_search.proofs.ItemLemmas.{contains-lent, there-at}
use Rattle.join_search.proofs.PlanLemmas.{at-none, at-set, whole-rows}
use Rattle.join_search.proofs.by_sets.rows_by.Goals as goal

pub path_rows-requires-clause-path : goal.path_rows-requires-clause-path
path_rows-requires-clause-path c =
    let t = c.args.at.now in
    let fronts = paths_at t.table.now in
    (there-at t.cat.now t.q.now fronts c.args.set none (path c.in-Some.p.now) c.requires.at.placed (contains-lent c.args.paths.now (fronts c.args.set none) c.in-Some.p.now c.requires.paths c.in-Some.ensures.is_there)).is_path

pub returns-in-Some-clause-rows : goal.returns-in-Some-clause-rows
returns-in-Some-clause-rows c =
    let t = c.args.at.now in
    let fronts = paths_at t.table.now in
    let x = path c.in-Some.p.now in
    let h = there-at t.cat.now t.q.now fronts c.args.set none x c.requires.at.placed (contains-lent c.args.paths.now (fronts c.args.set none) c.in-Some.p.now c.requires.paths c.in-Some.ensures.is_there) in
    c.path_rows.ensures.rows ∙ sym (whole-rows t.cat.now t.q.now c.args.set x.tree (at-set t.cat.now t.q.now c.args.set none x h) (at-none t.cat.now t.q.now c.args.set x h))
