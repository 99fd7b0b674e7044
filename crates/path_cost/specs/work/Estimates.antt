-- Working words beside those of `Estimates`.
use Rattle.std.specs.Prelude.{ℕ, Bool, ◌&&◌, ◌||◌, not, List, map, length, nat_lt}
use Rattle.pg_expr.specs.work.AtomSets.{contains}
use Rattle.catalog.specs.Contents.{Contents}
use Rattle.catalog.specs.Range.{Range}
use Rattle.eq_classes.specs.Clauses.{Set, ClassTable}
use Rattle.eq_classes.specs.Listing.{clause_at}
use Rattle.eq_classes.specs.Parts.{is_join}
use Rattle.eq_classes.specs.declared.classes.ClassNo.{ClassNo}
use Rattle.path_cost.specs.Estimates.{is_pair_of, pairs}

-- a number is that of a pair clause of one of some classes
abbrev pub is_pair_at : List ClassNo → ClassTable → ℕ → Bool
is_pair_at keys t n = is_pair_of (map (λ (k : ClassNo). k.0) keys) (clause_at t.clauses n)

-- a number is that of a pair clause of one of some classes that joins two sets
abbrev pub is_keyed : Set → Set → List ClassNo → ClassTable → ℕ → Bool
is_keyed a b keys t n = nat_lt n (length t.clauses) && (is_join a b (clause_at t.clauses n) && is_pair_at keys t n)

-- a number is in one of two sets of clauses
abbrev pub either : List ℕ → List ℕ → ℕ → Bool
either a b n = contains a n || contains b n

-- a number is in one of two sets of clauses and not in a third
abbrev pub either_but : List ℕ → List ℕ → List ℕ → ℕ → Bool
either_but a b c n = either a b n && not (contains c n)

-- the pairs of rows of two sets that are equal in some classes
abbrev pub pairs_by : Contents → Range → ClassTable → Set → Set → List ClassNo → ℕ
pairs_by c range t a b keys = pairs c range t a b (map (λ (k : ClassNo). k.0) keys)
