use Rattle.heap.proofs.MarkLemmas.{has-set_bit}
use Rattle.heap.proofs.tids.with_bit.Goals as goal

pub returns : goal.returns
returns c = λ k. has-set_bit c.args.word c.args.bit k c.requires
