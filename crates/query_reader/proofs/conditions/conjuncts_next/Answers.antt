use Rattle.catalog.specs.Range.{type_in}
use Rattle.path_cost.specs.work.Columns.{is_column_in}
use Rattle.pg_expr.specs.work.View.{cond}
use Rattle.query_reader.specs.work.Scope.{visible_in}
use Rattle.query_reader.proofs.ConjunctLemmas.{conjuncts-over}
use Rattle.query_reader.proofs.WhereLemmas.{condition-stopped, condition-read}
use Rattle.query_reader.proofs.conditions.conjuncts_next.Goals as goal

pub returns-in_err-condition-clause-read : goal.returns-in_err-condition-clause-read
returns-in_err-condition-clause-read c = λ e rest ends is.
    let s = c.args.relations.now in
    condition-stopped (visible_in s) (type_in s.contents s.range) e rest _ _ _ (c.in_err-condition.ensures.read e rest ends is) c.from_residual.ensures.1

pub returns-clause-read : goal.returns-clause-read
returns-clause-read c = λ e rest ends is.
    let s = c.args.relations.now in
    condition-read (visible_in s) (type_in s.contents s.range) e rest _ c.in_ok-condition.condition c.in_ok-conjuncts.field-0 (c.in_ok-condition.ensures.read e rest ends is) c.in_ok-conjuncts.ensures.list

pub returns-clause-over : goal.returns-clause-over
returns-clause-over c =
    let s = c.args.relations.now in
    conjuncts-over s.contents s.range (cond c.in_ok-condition.condition) c.in_ok-conjuncts.field-0.items.items c.in_ok-conjuncts.ensures.list
    (c.in_ok-condition.ensures.visible (is_column_in s.contents s.range) c.see_their_columns.ensures) c.in_ok-condition.ensures.typed
