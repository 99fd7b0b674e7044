use Rattle.std.proofs.Common.{◌∙◌, ap, sym}
use Rattle.pathkeys.specs.Keys.{Keys, covers, order_keys}
use Rattle.plan_check.specs.work.Views.{entry}
use Rattle.entry_check.proofs.BestLemmas.{ordered-plain, ordered-sort}
use Rattle.entry_check.proofs.best.is_ordered.Goals as goal

pub returns-then-sort : goal.returns-then-sort
returns-then-sort c = λ contents p r. ordered-sort contents c.args.q.now (entry c.args.e.now) p r c.args.sort c.has_order.result c.if-sort.true c.has_order.ensures

pub returns-in-Some : goal.returns-in-Some
returns-in-Some c = λ contents p r.
    ordered-plain contents c.args.q.now (entry c.args.e.now) p r c.args.sort _ c.if-sort.false
    (sym c.in-Some.ensures.some ∙ ap (λ (ks : Keys). covers ks (order_keys c.args.q.now.classes c.args.q.now.order)) c.items.ensures.list)

pub returns-in-None : goal.returns-in-None
returns-in-None c = λ contents p r.
    ordered-plain contents c.args.q.now (entry c.args.e.now) p r c.args.sort _ c.if-sort.false
    (sym c.in-None.ensures.none ∙ ap (λ (ks : Keys). covers ks (order_keys c.args.q.now.classes c.args.q.now.order)) c.items.ensures.list)
