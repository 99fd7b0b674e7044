use Rattle.std.proofs.Common.{◌≡◌, drop, map}
use Rattle.std.specs.Prelude.{find}
use Rattle.pg_expr.specs.work.View.{cond}
use Rattle.index_match.specs.Bounds.{is_fixing}
use Rattle.scan_probes.specs.work.Probes.{AreKnown, conditions_on_key}
use Rattle.scan_probes.proofs.probes.fixing_probe.Given as goal

abbrev pub invariant-loop-condition : goal.invariant-loop-condition
invariant-loop-condition l =
    let rest = map (λ e. cond e.now) (drop l.condition-index l.conditions) in
    (find is_fixing (conditions_on_key l.at.rel.0 l.at.key rest) ≡ find is_fixing (conditions_on_key l.at.rel.0 l.at.key (map (λ e. cond e.now) l.conditions))) × AreKnown l.at.rel.0 l.given rest
