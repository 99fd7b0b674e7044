use Rattle.std.proofs.Common.{arith}
use Rattle.path_cost.specs.work.Known.{statistics_of}
use Rattle.path_cost.proofs.PlaceLemmas.{place-between}
use Rattle.path_cost.proofs.shares.place.Goals as goal

pub returns-clause-value : goal.returns-clause-value
returns-clause-value c =
    place-between c.args.op (statistics_of c.args.k.now) c.args.v.now c.passed-j.result c.index-k-j.result c.index-k-j-2.result c.step_of-step.result c.place_in.result
    c.passed-j.ensures.count
    (omega (arith, c.if-j-eq0.false)) (omega (arith, c.if-j-bounds.false, c.passed-j.ensures.few))
    c.step_of-step.ensures.value c.place_in.ensures.value
