use Rattle.std.proofs.Common.{arith}
use Rattle.reply.proofs.LimitLemmas.{draws_ended, draws_more, enough}
use Rattle.reply.proofs.pass.pass_over.Goals as goal

pub returns-in-None-clause-drawn : goal.returns-in-None-clause-drawn
returns-in-None-clause-drawn g c =
    let none = rw c.in-None.is at c.in_ok-next.ensures.none in
    draws_ended c.loop.counter c.args.rows.now c.loop.rows c.next.new.self c.args.fetches.now c.loop.fetches c.next.new.fetches c.loop.invariant.drawn c.in_ok-next.ensures.one c.in_ok-next.ensures.exact c.in_ok-next.ensures.first
    c.in_ok-next.ensures.pace_fetches none.0 c.args.offset c.loop-test.true none.1 none.2

pub loop-preserved : goal.loop-preserved
loop-preserved g c =
    let some = rw c.in-Some.is at c.in_ok-next.ensures.some in
    record {
      drawn = draws_more c.loop.counter c.args.rows.now c.loop.rows c.next.new.self c.args.fetches.now c.loop.fetches c.next.new.fetches c.loop.invariant.drawn c.in_ok-next.ensures.one
          c.in_ok-next.ensures.exact c.in_ok-next.ensures.first c.in_ok-next.ensures.pace_fetches _ some c.in_ok-next.ensures.pace;
      enough = enough c.loop.counter c.args.rows.now c.loop.rows c.next.new.self c.args.fetches.now c.loop.fetches c.next.new.fetches c.loop.invariant.drawn c.in_ok-next.ensures.one
          c.in_ok-next.ensures.exact c.in_ok-next.ensures.first c.in_ok-next.ensures.pace_fetches _ some;
      looked = omega (arith, c.in_ok-next.ensures.reads, c.loop.invariant.looked);
      idle = λ none. absurd (omega (arith, none));
    }
