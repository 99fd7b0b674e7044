use Rattle.std.proofs.Common.{◌<◌, ℕ, map}
use Rattle.plan_check.specs.work.Views.{entry}
use Rattle.plan_check.specs.work.Beating.{IsNoBeater}
use Rattle.plan_check.proofs.beaten.first_of_all.Given as goal

abbrev pub invariant-loop-m : goal.invariant-loop-m
invariant-loop-m l = (k : ℕ) → k < l.m → IsNoBeater l.q.window (map entry l.entries) l.n k
