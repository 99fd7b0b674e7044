use Rattle.std.proofs.Common.{◌≡◌, ◌<◌, ℕ, take}
use Rattle.std.specs.Option.{IsSome}
use Rattle.pathkeys.specs.Keys.{Keys}
use Rattle.cost_rules.specs.declared.pair.Pair.{Pair}
use Rattle.kept_paths.specs.work.Bounds.{KeepsEarly, is_told, known_at}
use Rattle.kept_paths.proofs.bounds.add_rooms.Given as goal

-- the shorter lists that the list begins with have room
abbrev pub invariant-loop-n : goal.invariant-loop-n
invariant-loop-n l = record {
  early : KeepsEarly l.fn.bounds l.bounds;
  told : (ks : Keys) (cost : Pair) → is_told l.bounds ks cost ≡ is_told l.fn.bounds ks cost;
  rooms : (m : ℕ) → m < l.n → IsSome (known_at l.bounds (take m l.list));
}
