use Rattle.std.proofs.Common.{◌<◌, ◌/◌, ◌^◌, arith}
use Rattle.heap.proofs.MarkLemmas.{none-from, lowest-has, lowest-fits, lowest-least}
use Rattle.heap.proofs.tids.first_bit.Goals as goal

pub returns-then-rest-eq0-clause-none : goal.returns-then-rest-eq0-clause-none
returns-then-rest-eq0-clause-none c = λ k le. none-from c.args.word c.args.from k (omega arith) le

pub returns-else-rest-eq0-clause-some : goal.returns-else-rest-eq0-clause-some
returns-else-rest-eq0-clause-some c =
    let some : 0 < c.args.word / 2 ^ c.args.from = omega arith in
    (omega arith, lowest-fits c.args.word c.args.from (omega arith) some, lowest-has c.args.word c.args.from (omega arith) some, lowest-least c.args.word c.args.from (omega arith) some)
