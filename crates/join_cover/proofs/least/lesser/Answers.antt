use Rattle.std.proofs.Common.{map, subst}
use Rattle.plan_check.specs.work.Views.{entry}
use Rattle.plan_check.proofs.PlaceLemmas.{read-at}
use Rattle.join_cover.specs.work.Leasts.{IsLeastFrom}
use Rattle.join_cover.proofs.LeastLemmas.{least-first, least-more, skip-other}
use Rattle.join_cover.proofs.least.lesser.Goals as goal

pub returns-then-e-set : goal.returns-then-e-set
returns-then-e-set c = λ p from i here.
    skip-other (map entry c.args.entries.now) c.args.set.0 p from i c.args.n here (entry c.index-entries-n.result) (read-at c.args.entries.now c.args.n c.index-entries-n.result c.requires.there c.index-entries-n.is) c.args.found (λ e f. c.if-e-set.true e)

pub returns-then-e-ne0 : goal.returns-then-e-ne0
returns-then-e-ne0 c = λ p from i here.
    skip-other (map entry c.args.entries.now) c.args.set.0 p from i c.args.n here (entry c.index-entries-n.result) (read-at c.args.entries.now c.args.n c.index-entries-n.result c.requires.there c.index-entries-n.is) c.args.found (λ e f. c.if-e-ne0.true f)

pub returns-in-Some : goal.returns-in-Some
returns-in-Some c = λ p from i here h.
    least-more (map entry c.args.entries.now) c.args.set.0 p from i c.args.n here (entry c.index-entries-n.result) (read-at c.args.entries.now c.args.n c.index-entries-n.result c.requires.there c.index-entries-n.is) c.if-e-set.false c.if-e-ne0.false c.in-Some.other c.lesser_of.result
    c.lesser_of.ensures.kept c.lesser_of.ensures.new (subst (λ o. IsLeastFrom (map entry c.args.entries.now) c.args.set.0 p from i o) c.in-Some.is h)

pub returns-in-None : goal.returns-in-None
returns-in-None c = λ p from i here h.
    least-first (map entry c.args.entries.now) c.args.set.0 p from i c.args.n here (entry c.index-entries-n.result) (read-at c.args.entries.now c.args.n c.index-entries-n.result c.requires.there c.index-entries-n.is) c.if-e-set.false c.if-e-ne0.false
    (subst (λ o. IsLeastFrom (map entry c.args.entries.now) c.args.set.0 p from i o) c.in-None.is h)
