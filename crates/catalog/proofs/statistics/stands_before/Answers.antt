use Rattle.std.proofs.Common.{◌∙◌, refl, sym}
use Rattle.catalog.proofs.StatisticsLemmas.{both-typed, found-before}
use Rattle.catalog.proofs.statistics.stands_before.Goals as goal

pub returns-then-are_equal : goal.returns-then-are_equal
returns-then-are_equal c =
    found-before c.args.common.now c.args.k c.loop-n.n _ c.index-common-k.result c.index-common-n.result refl c.index-common-k.is c.loop-n-test.true c.requires.within
    (sym c.are_equal.ensures ∙ c.if-are_equal.true)

pub are_equal-requires : goal.are_equal-requires
are_equal-requires c =
    both-typed c.args.common.now c.requires.values c.args.k c.loop-n.n c.index-common-k.result _ c.index-common-k.is c.loop-n-test.true c.requires.within
