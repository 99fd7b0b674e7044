use Rattle.std.proofs.Common.{◌≡◌, drop, map}
use Rattle.std.specs.List.{AllByRecursion}
use Rattle.pg_expr.specs.work.View.{cond}
use Rattle.scan_probes.specs.work.Scenes.{IsTestable, has_own_value, values_at}
use Rattle.scan_probes.specs.work.Values.{are_true}
use Rattle.scan_probes.proofs.conditions.all_true.Given as goal

abbrev pub invariant-loop-condition : goal.invariant-loop-condition
invariant-loop-condition l =
    let rest = map (λ e. cond e.now) (drop l.condition-index l.conditions) in
    (are_true (values_at l.bound) rest ≡ are_true (values_at l.bound) (map (λ e. cond e.now) l.conditions)) × AllByRecursion (IsTestable l.bound.cat.now l.bound.range.now l.bound.rel.0 (has_own_value l.bound.own) l.bound.given.now) rest
