use Rattle.advisor.specs.work.Choices.{IsPart}
use Rattle.plan_tree.specs.work.Views.{plan}
use Rattle.index_prices.specs.work.Quotes.{HasAllRead}
use Rattle.index_prices.proofs.reading.candidates_read.Given as goal

abbrev pub invariant-loop-j : goal.invariant-loop-j
invariant-loop-j l = record {
  part : IsPart l.read.0 l.set;
  all : HasAllRead l.cat l.candidates l.set (plan l.p) l.j l.read.0;
}
