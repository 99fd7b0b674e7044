use Rattle.std.proofs.Common.{◌≡◌, ◌++◌, drop, map}
use Rattle.pg_expr.specs.work.View.{cond}
use Rattle.scan_probes.specs.work.Probes.{probes_from}
use Rattle.scan_probes.proofs.probes.index_probes.Given as goal

abbrev pub invariant-loop-column : goal.invariant-loop-column
invariant-loop-column l =
    let es = map (λ e. cond e.now) l.conditions in
    l.probes.items ++ probes_from l.r.0 l.column (drop l.column l.keys) l.given es ≡ probes_from l.r.0 0 l.keys l.given es
