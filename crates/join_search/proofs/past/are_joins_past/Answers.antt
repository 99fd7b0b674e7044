use Rattle.std.proofs.Common.{◌∙◌, sym}
use Rattle.plan_tree.specs.work.Views.{path}
use Rattle.join_search.specs.work.Tables.{none, paths_at}
use Rattle.join_search.proofs.ItemLemmas.{contains-lent, none-lent, there-at}
use Rattle.join_search.proofs.PlanLemmas.{at-none, at-set, whole-rows}
use Rattle.join_search.proofs.SearchLemmas.{split-none}
use Rattle.join_search.proofs.past.are_joins_past.Goals as goal

pub path_rows-rows-requires-clause-path : goal.path_rows-rows-requires-clause-path
path_rows-rows-requires-clause-path c =
    let t = c.args.task.now in
    let fronts = paths_at c.args.table.now in
    (there-at t.cat.now t.q.now fronts c.args.a none (path c.in-Some.p.now) c.requires.placed (contains-lent c.paths-outers.result.now (fronts c.args.a none) c.in-Some.p.now c.paths-outers.ensures c.in-Some.ensures.is_there)).is_path

pub are_past_from-requires-clause-rows : goal.are_past_from-requires-clause-rows
are_past_from-requires-clause-rows c =
    let t = c.args.task.now in
    let fronts = paths_at c.args.table.now in
    let x = path c.in-Some.p.now in
    let h = there-at t.cat.now t.q.now fronts c.args.a none x c.requires.placed (contains-lent c.paths-outers.result.now (fronts c.args.a none) c.in-Some.p.now c.paths-outers.ensures c.in-Some.ensures.is_there) in
    c.path_rows-rows.ensures.rows ∙ sym (whole-rows t.cat.now t.q.now c.args.a x.tree (at-set t.cat.now t.q.now c.args.a none x h) (at-none t.cat.now t.q.now c.args.a x h))

pub returns-in-None : goal.returns-in-None
returns-in-None c = λ is front.
    let t = c.args.task.now in
    let fronts = paths_at c.args.table.now in
    split-none t.cat.now t.q.now t.asked fronts front c.args.a c.args.b (none-lent c.paths-outers.result.now (fronts c.args.a none) c.paths-outers.ensures c.in-None.ensures.none)
