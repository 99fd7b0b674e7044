use Rattle.std.proofs.Common.{◌≡◌, ◌||◌, ℕ, drop}
use Rattle.std.specs.List.{list_any}
use Rattle.pg_base.specs.Sets.{has}
use Rattle.pg_expr.specs.work.AtomSets.{contains}
use Rattle.pg_expr.specs.Columns.{names_rel}
use Rattle.path_cost.specs.Estimates.{conditions_from}
use Rattle.plan_tree.proofs.make.all_named.Given as goal

-- the relations that the clauses that are left name, with those named so far, are all
abbrev pub invariant-loop-n : goal.invariant-loop-n
invariant-loop-n l =
    (k : ℕ) → has l.named.0 k || list_any (names_rel k) (conditions_from l.n (contains l.set) (drop l.n l.q.classes.clauses)) ≡ list_any (names_rel k) (conditions_from 0 (contains l.set) l.q.classes.clauses)
