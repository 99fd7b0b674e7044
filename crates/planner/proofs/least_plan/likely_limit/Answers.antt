use Rattle.std.proofs.Common.{◌∙◌, subst, sym}
use Rattle.std.specs.Prelude.{All}
use Rattle.join_search.specs.work.Tables.{paths_at}
use Rattle.planner.specs.work.Finishing.{IsWhole}
use Rattle.planner.proofs.SearchLemmas.{whole-paths}
use Rattle.planner.proofs.TableLemmas.{base-forgotten}
use Rattle.planner.proofs.least_plan.likely_limit.Goals as goal

pub limit_by-limit-requires-clause-whole : goal.limit_by-limit-requires-clause-whole
limit_by-limit-requires-clause-whole c =
    let contents = c.args.cat.now in
    let q = c.args.q.now in
    subst (All (IsWhole contents q)) (sym c.whole_paths.ensures) (whole-paths contents q (paths_at c.in_ok-table.table) c.in_ok-table.ensures.placed c.all_relations-all.result c.all_relations-all.ensures)

pub returns-clause-base : goal.returns-clause-base
returns-clause-base c = base-forgotten c.args.cat.now c.args.q.now c.in_ok-table.table c.forget_joins.new.self c.in_ok-table.ensures.placed c.forget_joins.ensures.scans c.forget_joins.ensures.single

pub returns-clause-scans : goal.returns-clause-scans
returns-clause-scans c = λ s p single. c.forget_joins.ensures.scans s p single ∙ c.in_ok-table.ensures.scans s p single
