use Rattle.std.proofs.Common.{ℕ, ◌+◌, sym, ap, ◌∙◌, arith}
use Rattle.std.specs.List.{prefix_len}
use Rattle.civil.specs.Times.{is_of_time}
use Rattle.civil.proofs.ScanLemmas.{gone-on, passed, stopped}
use Rattle.civil.proofs.offsets.offset_at.Goals as goal

pub returns-then-not-is_time_byte : goal.returns-then-not-is_time_byte
returns-then-not-is_time_byte c =
    let here = stopped is_of_time c.behind-time.result.now c.loop-n.n c.loop-n-test.true c.loop-n.invariant (sym c.is_time_byte.ensures ∙ c.if-not-is_time_byte.true) in
    ap (λ (k : ℕ). 11 + k) (here ∙ ap (prefix_len is_of_time) c.behind-time.ensures)

pub loop-n-preserved : goal.loop-n-preserved
loop-n-preserved c = gone-on is_of_time c.behind-time.result.now c.loop-n.n c.loop-n-test.true c.loop-n.invariant (sym c.is_time_byte.ensures ∙ c.if-not-is_time_byte.false)

pub returns : goal.returns
returns c =
    let all = passed is_of_time c.behind-time.result.now c.loop-n.n c.loop-n-test.false c.loop-n.invariant in
    omega (arith, all, c.loop-n-test.false, c.loop-n.auto.n-end, ap (prefix_len is_of_time) c.behind-time.ensures)
