use Rattle.std.proofs.Common.{◌∙◌, sym}
use Rattle.std.proofs.lemmas.Bool.{false≢true}
use Rattle.plan_check.specs.Views.{side}
use Rattle.plan_check.specs.work.Views.{certificate}
use Rattle.certificate_check.proofs.CostLemmas.{rows-all}
use Rattle.certificate_check.proofs.LeastLemmas.{best-least, not-best}
use Rattle.certificate_check.proofs.best.judge_best.Goals as goal

pub price_of_side-requires-clause-rows : goal.price_of_side-requires-clause-rows
price_of_side-requires-clause-rows c = rows-all c.args.cat.now c.args.q.now c.all_relations.result c.set_rows-rows.result c.all_relations.ensures c.set_rows-rows.ensures.rows

pub unreachable-requires : goal.unreachable-requires
unreachable-requires c = c.in-None.ensures.none c.requires.best.plan c.requires.best.is c.requires.best.finished

pub least_price-least-requires-clause-rows : goal.least_price-least-requires-clause-rows
least_price-least-requires-clause-rows c = rows-all c.args.cat.now c.args.q.now c.all_relations.result c.set_rows-rows.result c.all_relations.ensures c.set_rows-rows.ensures.rows

pub least_price-least-requires-clause-best : goal.least_price-least-requires-clause-best
least_price-least-requires-clause-best c = record { side = side c.args.t.now.best; priced = c.in-Some.ensures.some }

pub returns-then-is_no_worse : goal.returns-then-is_no_worse
returns-then-is_no_worse c = λ best.
    best-least c.args.cat.now c.args.q.now (certificate c.args.t.now) c.in-Some.best c.least_price-least.result c.in-Some.ensures.some (c.is_no_worse.ensures.0 c.if-is_no_worse.true) c.least_price-least.ensures.least best

pub returns : goal.returns
returns c =
    not-best c.args.cat.now c.args.q.now (certificate c.args.t.now) c.in-Some.best c.least_price-least.result c.requires.best c.in-Some.ensures.some
    (λ h. false≢true (sym c.if-is_no_worse.false ∙ c.is_no_worse.ensures.1 h)) c.least_price-least.ensures.some c.least_price-least.ensures.least
