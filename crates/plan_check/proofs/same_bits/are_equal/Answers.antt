use Rattle.std.proofs.lemmas.Slice.Eq.{slice_eq-Decides}
use Rattle.plan_check.proofs.SameLemmas.{index-decides}
use Rattle.plan_check.proofs.same_bits.are_equal.Goals as goal

pub returns : goal.returns
returns c = let d = slice_eq-Decides index-decides c.args.a.now c.args.b.now c.eq.result c.eq.ensures in (d.0, d.1)
