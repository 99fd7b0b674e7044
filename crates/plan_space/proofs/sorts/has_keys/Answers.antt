use Rattle.std.proofs.Common.{◌∙◌, sym, true≢false}
use Rattle.pathkeys.proofs.CoveringLemmas.{covers-antisym}
use Rattle.plan_tree.specs.work.Views.{plan}
use Rattle.plan_space.proofs.OrderLemmas.{covers-same}
use Rattle.plan_space.proofs.SortLemmas.{sort-has}
use Rattle.plan_space.proofs.sorts.has_keys.Goals as goal

pub returns-then-covers : goal.returns-then-covers
returns-then-covers c =
    let own = c.in-Some.own.now in
    let list = c.args.list.now in
    let is = sort-has c.args.cat.now c.args.q.now (plan c.args.p.now) own list c.in-Some.ensures in (
      λ yes. is.1 (covers-antisym own list (sym c.covers.ensures.prefix ∙ c.if-covers.true) (sym c.covers-then-covers.ensures.prefix ∙ yes)),
      λ has. c.covers-then-covers.ensures.prefix ∙ covers-same list own (sym (is.0 has)),
    )

pub returns-else-covers : goal.returns-else-covers
returns-else-covers c =
    let own = c.in-Some.own.now in
    let list = c.args.list.now in
    let is = sort-has c.args.cat.now c.args.q.now (plan c.args.p.now) own list c.in-Some.ensures in
    (λ yes. absurd (true≢false (sym yes ∙ c.if-covers.false)), λ has. absurd (true≢false (sym (c.covers.ensures.prefix ∙ covers-same own list (is.0 has)) ∙ c.if-covers.false)))
