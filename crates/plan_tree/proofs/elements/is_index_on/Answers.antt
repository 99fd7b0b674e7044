use Rattle.std.proofs.Common.{◌∙◌, ap, sym}
use Rattle.sql_query.specs.catalog_Contents.{indexes_of}
use Rattle.plan_tree.proofs.ElementLemmas.{is-listed, listed-on}
use Rattle.plan_tree.proofs.elements.is_index_on.Goals as goal

pub returns : goal.returns
returns c =
    let i = c.args.i in
    let on = listed-on c.args.cat.now c.args.q.now c.args.r.0 i in
    let found = c.contains.ensures.value ∙ ap (is-listed i) (c.indexes.ensures.value ∙ ap (indexes_of c.args.cat.now) c.table_of.ensures.table) in
    (λ h. on.0 (sym found ∙ h), λ h. found ∙ on.1 h)
