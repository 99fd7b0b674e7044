use Rattle.std.proofs.Common.{false, subst, sym}
use Rattle.join_search.specs.work.Tables.{paths_at}
use Rattle.join_search.specs.declared.useful.Asked.{Asked}
use Rattle.plan_tree.proofs.BoundLemmas.{lawful-rows}
use Rattle.planner.specs.work.Finishing.{AreCandidates}
use Rattle.planner.proofs.SearchLemmas.{candidates}
use Rattle.planner.proofs.TableLemmas.{scans-handed}
use Rattle.planner.proofs.least_plan.plan_below.Goals as goal

pub least_of-requires-clause-candidates : goal.least_of-requires-clause-candidates
least_of-requires-clause-candidates c =
    let contents = c.args.cat.now in
    let q = c.args.q.now in
    let asked : Asked = record { every_key = false; limit = c.args.limit } in
    let table = c.in_ok-table.table in
    let found = c.in_ok-table.ensures in
    subst (AreCandidates contents q asked) (sym c.whole_paths.ensures)
    (candidates contents q (paths_at table) found.placed asked found.covered (λ r lt. scans-handed contents q c.args.base table found.handed r (c.requires.scans r lt))
    (lawful-rows contents q c.lawful.ensures) c.all_relations-all.result c.all_relations-all.ensures)
