use Rattle.std.proofs.Common.{◌∙◌, arith}
use Rattle.pg_base.specs.Sets.{has}
use Rattle.path_cost.proofs.CostLemmas.{index_rule, other_operators_are}
use Rattle.path_cost.proofs.indexes.index.Goals as goal

pub returns-clause-rule : goal.returns-clause-rule
returns-clause-rule c =
    c.index_scan.ensures.rule
    ∙ index_rule _ _ _ _ _ _ _ _ _ _ _ _ _ c.args.only c.runs.ensures.runs c.descent.ensures.descent c.index_part-part.ensures.rule c.rows_found-found.ensures.rows c.relation_pages.ensures.pages c.operators_of-ops.ensures
    (other_operators_are c.args.r.0 (has c.args.p.0) c.base_clauses-base.result c.param_clauses-param.result c.args.conditions.now c.args.classes.now.clauses c.base_clauses-base.ensures c.param_clauses-param.ensures)
    (omega (arith, c.rows_found-found.ensures.rows, c.rows_found-found.ensures.estimate.some))
