use Rattle.std.proofs.Common.{◌≡◌, ◌&&◌, ◌||◌, ℕ, take}
use Rattle.std.specs.Option.{IsSome}
use Rattle.pathkeys.specs.Keys.{Keys}
use Rattle.cost_rules.specs.declared.pair.Pair.{Pair}
use Rattle.kept_paths.specs.work.Bounds.{EarlierEach, is_first, is_told, known_at}
use Rattle.kept_paths.proofs.ReadLemmas.{passed}
use Rattle.kept_paths.proofs.bounds.lower_each.Given as goal

-- the cost is noted of the shorter lists that the list begins with
abbrev pub invariant-loop-n : goal.invariant-loop-n
invariant-loop-n l = record {
  rooms : (m : ℕ) → IsSome (known_at l.bounds (take m l.list));
  early : EarlierEach l.fn.bounds l.bounds l.list l.cost;
  told : (ks : Keys) (c : Pair) → is_told l.bounds ks c ≡ (is_told l.fn.bounds ks c || (passed l.n l.list ks && is_first l.cost c));
}
