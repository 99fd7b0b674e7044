-- The conditions of an index scan by the sets that its bounds and tests are found to be.
use Rattle.std.proofs.Common.{◌≡◌, ◌<◌, ℕ, ◌&&◌, ◌||◌, Bool, true, false, List, length, nat_lt, arith, ap, ap₂, refl, ◌∙◌}
use Rattle.std.proofs.lemmas.Grind.{common_steps}
use Rattle.pg_base.specs.declared.numbers.IndexNo.{IndexNo}
use Rattle.pg_expr.specs.work.AtomSets.{contains}
use Rattle.sql_query.specs.catalog_Contents.{Contents}
use Rattle.eq_classes.specs.Clauses.{Set, ClassTable}
use Rattle.index_match.specs.Numbered.{has_number}
use Rattle.index_match.specs.Conditions.{index_conditions}
use Rattle.index_match.specs.Bounds.{index_bounds}
use Rattle.index_match.specs.work.Bounds.{index_tests}
use Rattle.index_match.proofs.PartLemmas.{conditions_local, in_either}
use Rattle.pg_base.proofs.NumberLemmas.{test-below as inside}

-- what is a bound or a test is a condition
pub all-found : (c : Contents) (t : ClassTable) (i : IndexNo) (r : ℕ) (p : Set) (bounds tests all : List ℕ) → ((n : ℕ) → contains bounds n ≡ has_number (index_bounds c t i r p) n) → ((n : ℕ) → contains tests n ≡ has_number (index_tests c t i r p) n) →
    ((n : ℕ) → contains all n ≡ nat_lt n (length t.clauses) && (contains bounds n || contains tests n)) → (n : ℕ) → contains all n ≡ has_number (index_conditions c t i r p) n
all-found c t i r p bounds tests all g h e n =
    e n
    ∙ ap₂ (λ (a b : Bool). nat_lt n (length t.clauses) && (a || b)) (g n) (h n)
    ∙ ap (λ (b : Bool). nat_lt n (length t.clauses) && b) (in_either c t i r p n)
    ∙ inside n (length t.clauses) (has_number (index_conditions c t i r p) n) (λ local. (conditions_local c t i r p n local).0)
