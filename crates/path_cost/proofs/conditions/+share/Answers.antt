use Rattle.std.proofs.Common.{◌≡◌, ◌∙◌, sym, ap}
use Rattle.pg_expr.specs.Cond.{all_of}
use Rattle.pg_expr.specs.work.View as view
use Rattle.path_cost.specs.declared.shares.TheConstants.{ALL_ROWS}
use Rattle.path_cost.specs.work.Relations.{range_of}
use Rattle.path_cost.specs.Selectivity.{of_all, selectivity}
use Rattle.path_cost.proofs.ListingLemmas.{parts_listed, parts_over_all}
use Rattle.path_cost.proofs.PartLemmas.{and-is}
use Rattle.path_cost.proofs.conditions.+share.Goals as goal

pub all_share-range_weight-requires-clause-over : goal.all_share-range_weight-requires-clause-over
all_share-range_weight-requires-clause-over t c = parts_over_all c.args.cat.now (range_of c.args.relations) c.args.parts.now c.requires.columns c.requires.typed

pub share_of-returns-in-And-clause-share : goal.share_of-returns-in-And-clause-share
share_of-returns-in-And-clause-share t c =
    let es = c.items.result.now in
    let form : all_of (view.conds es) ≡ view.cond c.args.e.now = ap (λ xs. all_of (view.conds xs)) c.items.ensures ∙ sym (and-is c.in-And.parts) ∙ sym (ap view.cond c.in-And.is) in
    c.all_share.ensures.share
    ∙ ap (λ xs. of_all c.args.cat.now (range_of c.args.relations) xs 0 ALL_ROWS (view.conds es)) (sym (parts_listed es))
    ∙ ap (selectivity c.args.cat.now (range_of c.args.relations)) form
