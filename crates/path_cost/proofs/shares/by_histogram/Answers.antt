use Rattle.std.proofs.Common.{◌≤◌, ℕ, sym, subst}
use Rattle.path_cost.specs.work.Known.{statistics_of}
use Rattle.path_cost.specs.Selectivity.{met_of}
use Rattle.path_cost.proofs.PlaceLemmas.{met-most}
use Rattle.path_cost.proofs.shares.by_histogram.Goals as goal

pub part_of-between-requires-clause-within : goal.part_of-between-requires-clause-within
part_of-between-requires-clause-within c =
    subst (λ n. n ≤ c.place-place.result.1) (sym c.met_of-parts.ensures)
    (subst (λ (p : ℕ × ℕ). met_of c.args.op p ≤ p.1) (sym c.place-place.ensures.value) (met-most c.args.k.now.typed (statistics_of c.args.k.now) c.requires.lawful c.args.op c.args.v.now c.requires.some).0)

pub part_of-between-requires-clause-some : goal.part_of-between-requires-clause-some
part_of-between-requires-clause-some c =
    subst (λ (p : ℕ × ℕ). 1 ≤ p.1) (sym c.place-place.ensures.value) (met-most c.args.k.now.typed (statistics_of c.args.k.now) c.requires.lawful c.args.op c.args.v.now c.requires.some).1
