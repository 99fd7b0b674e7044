use Rattle.std.proofs.Common.{refl, sym, ◌∙◌, arith}
use Rattle.std.proofs.lemmas.Bool.{ltb-true}
use Rattle.civil.proofs.NumericLemmas.{below-all}
use Rattle.civil.proofs.ranges.whole_numeric.Goals as goal

pub with_sign-requires : goal.with_sign-requires
with_sign-requires c =
    let below = ltb-true _ _ (sym c.is_below_end.ensures ∙ c.if-is_below_end.true) in
    omega (arith, below-all c.args.digits c.args.scale _ _ c.args.digits (sym c.has_size.ensures ∙ c.if-not-has_size.false) below refl refl)
