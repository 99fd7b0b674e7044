use Rattle.std.proofs.Common.{List, All, map, ◌∙◌, ap, subst, sym}
use Rattle.pg_expr.specs.declared.operand.ColRef.{ColRef}
use Rattle.catalog.specs.Range.{IsRange, type_in}
use Rattle.sql_query.specs.Queries.{Query}
use Rattle.sql_query.specs.WellBound.{IsColumnOf}
use Rattle.reply.proofs.pending.Page.new.Goals as goal

pub types_of-requires-clause-range : goal.types_of-requires-clause-range
types_of-requires-clause-range g c =
    let P : Query → Type 0 = λ x. IsRange c.args.at.now.cat.now x.range in
    subst P (sym c.q.view_is) c.requires.bound.range

pub types_of-requires-clause-columns : goal.types_of-requires-clause-columns
types_of-requires-clause-columns g c =
    let P : Query → Type 0 = λ x. All (IsColumnOf c.args.at.now.cat.now x.range) x.select in
    let Q : List ColRef → Type 0 = λ xs. All (IsColumnOf c.args.at.now.cat.now c.q.inside.range) xs in
    subst Q (sym c.items.ensures) (subst P (sym c.q.view_is) (c.selected_columns.ensures c.args.at.now.cat.now c.args.at.now.q.now c.requires.bound))

pub returns-clause-types : goal.returns-clause-types
returns-clause-types g c =
    c.in_ok-types.ensures ∙ ap (map (type_in c.args.at.now.cat.now c.q.inside.range)) c.items.ensures
    ∙ ap (λ (x : Query). map (type_in c.args.at.now.cat.now x.range) x.select) c.q.view_is
