use Rattle.std.proofs.Common.{◌≡◌}
use Rattle.advisor.specs.work.Choices.{IsPart}
use Rattle.advisor.specs.work.Memos.{AreBelow, IsMemo}
use Rattle.advisor.proofs.prices.price_of.Given as goal

abbrev pub invariant-loop-n : goal.invariant-loop-n
invariant-loop-n g l = record {
  part : IsPart l.wanted l.at;
  memo : IsMemo (g.P.Pricer.priced l.fn.p) l.prices;
  below : AreBelow l.prices;
  same : l.p ≡ l.fn.p;
}
