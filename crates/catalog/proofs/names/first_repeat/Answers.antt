use Rattle.std.proofs.Common.{◌<◌, ◌∙◌, sym, subst, ap, length, arith}
use Rattle.std.proofs.lemmas.List.{get_or_default, take_all}
use Rattle.pg_base.specs.Names.{AreDistinct}
use Rattle.catalog.proofs.NameLaws.{distinct-more, not_among}
use Rattle.catalog.proofs.names.first_repeat.Goals as goal

pub loop-n-preserved : goal.loop-n-preserved
loop-n-preserved c =
    let wide = ap length c.items-n-end.ensures.items in
    let within : c.loop-n.n < length c.args.names.now = omega (arith, wide, c.loop-n-test.true, c.requires) in
    let at = get_or_default c.args.names.now c.loop-n.n _ _ within ∙ sym c.index-names-n.is ∙ sym c.items.ensures in
    distinct-more c.args.names.now c.loop-n.n c.items.result.now within at c.loop-n.invariant (not_among _ _ c.is_among.ensures c.if-is_among.false)

pub returns-clause-repeat : goal.returns-clause-repeat
returns-clause-repeat c =
    let wide = ap length c.items-n-end.ensures.items in
    subst AreDistinct (take_all c.loop-n.n c.args.names.now (omega (arith, wide, c.loop-n-test.false, c.requires))) c.loop-n.invariant
