use Rattle.std.proofs.Common.{◌≡◌, ◌++◌, drop, map}
use Rattle.pg_expr.specs.work.AtomSets.{contains}
use Rattle.pg_expr.specs.work.View.{cond}
use Rattle.path_cost.specs.Estimates.{conditions_from}
use Rattle.scan_probes.proofs.conditions.chosen.Given as goal

abbrev pub invariant-loop-n : goal.invariant-loop-n
invariant-loop-n l =
    map (λ e. cond e.now) l.chosen.items ++ conditions_from l.n (contains l.set) (drop l.n l.classes.clauses) ≡ conditions_from 0 (contains l.set) l.classes.clauses
