use Rattle.std.proofs.Common.{◌∙◌, refl, sym}
use Rattle.std.proofs.lemmas.Bool.{false≢true}
use Rattle.plan_check.specs.work.Views.{entry}
use Rattle.plan_check.specs.work.Beating.{candidate}
use Rattle.entry_check.proofs.OwnLemmas.{own-from, param-same, set-same}
use Rattle.entry_check.proofs.joins.own_of.Goals as goal

pub returns-then-e-x-clause-none : goal.returns-then-e-x-clause-none
returns-then-e-x-clause-none c = λ contents q p r h. c.if-e-x.true (set-same contents q (entry c.args.e.now) (candidate c.args.x.now) p r h)

pub returns-then-e-x-2-clause-none : goal.returns-then-e-x-2-clause-none
returns-then-e-x-2-clause-none c = λ contents q p r h. c.if-e-x-2.true (param-same contents q (entry c.args.e.now) (candidate c.args.x.now) p r h)

pub returns-then-not-are_equal-clause-none : goal.returns-then-not-are_equal-clause-none
returns-then-not-are_equal-clause-none c = λ contents q p r h. false≢true (sym c.if-not-are_equal.true ∙ c.are_equal.ensures.1 (c.items.ensures.list ∙ h.keys ∙ sym r.has.keys))

pub returns-clause-some : goal.returns-clause-some
returns-clause-some c = λ contents q p r.
    own-from contents q (entry c.args.e.now) (candidate c.args.x.now) p _ r c.if-e-x.false c.if-e-x-2.false (sym c.items.ensures.list ∙ c.are_equal.ensures.0 c.if-not-are_equal.false) refl refl refl
