use Rattle.std.proofs.Common.{arith}
use Rattle.index_prices.proofs.ReadLemmas.{behind-small}
use Rattle.advisor.proofs.PlaceLemmas.{one-most}
use Rattle.index_prices.proofs.pricer.read_of.Goals as goal

pub overflow_mul-set : goal.overflow_mul-set
overflow_mul-set c = let small = behind-small c.args.q.now c.args.candidates.now c.loop-j.j c.loop-j.set c.requires c.loop-j.invariant in omega (arith, small)

pub overflow_add-set : goal.overflow_add-set
overflow_add-set c =
    let small = behind-small c.args.q.now c.args.candidates.now c.loop-j.j c.loop-j.set c.requires c.loop-j.invariant in
    let most = one-most c.is_of.result in
    omega (arith, small, most, c.from.ensures)
