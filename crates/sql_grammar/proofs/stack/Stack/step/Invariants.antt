use Rattle.std.proofs.Common.{◌≡◌, ℕ, ◌≤◌, length}
use Rattle.pg_base.specs.declared.limits.TheConstants.{MOST_LEVELS}
use Rattle.sql_grammar.specs.work.Machine.{depth_of, step_of, may_end, Fits}
use Rattle.sql_grammar.proofs.stack.Stack.step.Given as goal

abbrev pub invariant-loop-item : goal.invariant-loop-item
invariant-loop-item l = record {
  same : (limit : ℕ) → step_of limit l.class l.fn.self ≡ step_of limit l.class l.self;
  ends : may_end l.fn.self ≡ may_end l.self;
  fits : Fits 16 l.self;
  shallow : depth_of l.self ≤ MOST_LEVELS;
}

abbrev pub decreases-loop-item : goal.decreases-loop-item
decreases-loop-item l = length l.self
