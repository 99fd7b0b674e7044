use Rattle.std.proofs.Common.{◌∙◌, sym}
use Rattle.join_search.proofs.MergeLemmas.{cheapest-by, none-begins, none-empty}
use Rattle.join_search.proofs.sides.cheapest_by.Goals as goal

pub returns-then-covers-clause-some : goal.returns-then-covers-clause-some
returns-then-covers-clause-some c = cheapest-by c.args.paths.now c.in-Some.p.now c.args.by.now c.in-Some.ensures.is_there c.in-Some.ensures.least (sym c.covers.ensures.prefix ∙ c.if-covers.true)

pub returns-else-covers-clause-none : goal.returns-else-covers-clause-none
returns-else-covers-clause-none c = none-begins c.args.paths.now c.in-Some.p.now c.args.by.now c.requires.below c.in-Some.ensures.least (sym c.covers.ensures.prefix ∙ c.if-covers.false)

pub returns-in-None-clause-none : goal.returns-in-None-clause-none
returns-in-None-clause-none c = none-empty c.args.paths.now c.args.by.now c.in-None.ensures.none
