use Rattle.std.proofs.Common.{◌≡◌, ℕ, ◌<◌, ◌||◌, nat_eq, drop}
use Rattle.std.specs.List.{list_any}
use Rattle.opfamily.specs.pg_base_Sets.{has}
use Rattle.eq_classes.proofs.class.rels_of.Given as goal

abbrev pub invariant-loop-c : goal.invariant-loop-c
invariant-loop-c l = (k : ℕ) → k < 16 → has l.set.0 k || list_any (λ x. nat_eq x.rel.0 k) (drop l.c-index l.columns) ≡ list_any (λ x. nat_eq x.rel.0 k) l.columns
