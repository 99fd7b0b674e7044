use Rattle.std.proofs.Common.{◌≢◌, ℕ, ◌<◌, length, get_or, arith}
use Rattle.std.proofs.lemmas.List.{take_all, drop_all}
use Rattle.ddl_reader.proofs.Lines.{cut, whole}
use Rattle.ddl_reader.proofs.block.line_len.Goals as goal

pub returns-then-byte-eq10-clause-cut : goal.returns-then-byte-eq10-clause-cut
returns-then-byte-eq10-clause-cut c = cut c.args.text.now c.loop-n.n c.loop-n-test.true c.if-byte-eq10.true c.loop-n.invariant

pub returns-clause-cut : goal.returns-clause-cut
returns-clause-cut c =
    let other : (k : ℕ) → k < length c.args.text.now → get_or c.args.text.now k 0 ≢ 10 = λ k lt. c.loop-n.invariant k (omega (arith, lt, c.loop-n-test.false)) in
    rw (take_all (length c.args.text.now) c.args.text.now (omega arith), drop_all (length c.args.text.now) c.args.text.now (omega arith)) (whole c.args.text.now c.requires other)
