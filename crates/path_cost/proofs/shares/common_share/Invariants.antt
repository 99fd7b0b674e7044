use Rattle.std.proofs.Common.{◌≡◌, drop, find}
use Rattle.pg_value.specs.declared.operators.Op.TheVariants.{Eq}
use Rattle.catalog.specs.Statistics.{Common}
use Rattle.path_cost.specs.Selectivity.{comparison_holds}
use Rattle.path_cost.proofs.shares.common_share.Given as goal

abbrev pub invariant-loop-p : goal.invariant-loop-p
invariant-loop-p l = find (λ (p : Common). comparison_holds Eq p.0 l.v) (drop l.p-index l.common) ≡ find (λ (p : Common). comparison_holds Eq p.0 l.v) l.common
