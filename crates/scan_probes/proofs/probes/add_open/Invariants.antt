use Rattle.std.proofs.Common.{◌≡◌, ◌++◌, drop, map}
use Rattle.pg_expr.specs.work.View.{cond}
use Rattle.scan_probes.specs.work.Probes.{AreKnown, conditions_on_key, probe_of}
use Rattle.scan_probes.proofs.probes.add_open.Given as goal

abbrev pub invariant-loop-condition : goal.invariant-loop-condition
invariant-loop-condition l =
    let rest = map (λ e. cond e.now) (drop l.condition-index l.conditions) in
    (l.probes.items ++ map (probe_of l.at.rel.0 l.at.key l.at.place l.given) (conditions_on_key l.at.rel.0 l.at.key rest)
    ≡ l.fn.probes.items ++ map (probe_of l.at.rel.0 l.at.key l.at.place l.given) (conditions_on_key l.at.rel.0 l.at.key (map (λ e. cond e.now) l.conditions)))
    × AreKnown l.at.rel.0 l.given rest
