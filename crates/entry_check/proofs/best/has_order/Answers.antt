use Rattle.std.proofs.Common.{◌∙◌, ap}
use Rattle.std.specs.Prelude.{slice_get}
use Rattle.sql_query.specs.Queries.{Query}
use Rattle.pathkeys.specs.Keys.{order_keys}
use Rattle.entry_check.proofs.BestLemmas.{first-none, first-some}
use Rattle.entry_check.proofs.best.has_order.Goals as goal

pub returns-in-Some : goal.returns-in-Some
returns-in-Some c =
    let order = c.items.ensures ∙ ap (λ (x : Query). x.order) c.q.view_is in
    first-some (order_keys c.args.q.now.classes c.args.q.now.order) _ (c.in-Some.ensures.class ∙ (λ z. slice_get (order_keys (c.classes_of.ensures z) (order z)) 0))

pub returns-in-None : goal.returns-in-None
returns-in-None c =
    let order = c.items.ensures ∙ ap (λ (x : Query). x.order) c.q.view_is in
    first-none (order_keys c.args.q.now.classes c.args.q.now.order) (c.in-None.ensures.class ∙ (λ z. slice_get (order_keys (c.classes_of.ensures z) (order z)) 0))
