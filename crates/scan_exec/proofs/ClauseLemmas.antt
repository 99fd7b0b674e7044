-- Clauses chosen by their numbers are those of the relation, and those with its parameterisation.
use Rattle.std.proofs.Common.{◌≡◌, ◌+◌, ℕ, Bool, true, false, ◌&&◌, ◌||◌, nat_lt, length, refl, sym, ap, ap₂, ◌∙◌, arith}
use Rattle.std.proofs.lemmas.Bool.{lt-ltb}
use Rattle.eq_classes.specs.Clauses.{Clause, Set, ClassTable}
use Rattle.eq_classes.specs.Listing.{clause_at}
use Rattle.eq_classes.specs.Parts.{is_base, is_param, is_local}
use Rattle.index_match.specs.Numbered.{conditions_of, local, those}
use Rattle.index_match.proofs.PartLemmas.{clauses_by_number}
use Rattle.path_cost.specs.Estimates.{conditions_from}
use Rattle.path_cost.proofs.KeptLemmas.{where-from}
use Rattle.scan_probes.proofs.PickedLemmas.{chosen-are as chosen_are}

pub both_are : (t u : ClassTable) → u ≡ t → (r : ℕ) (p : Set) (end : ℕ) → end ≡ length u.clauses → (own with both : ℕ → Bool)
    → ((k : ℕ) → own k ≡ nat_lt k (length u.clauses) && is_base r (clause_at u.clauses k))
    → ((k : ℕ) → with k ≡ nat_lt k (length u.clauses) && is_param r p (clause_at u.clauses k))
    → ((k : ℕ) → both k ≡ nat_lt k end && (own k || with k))
    → conditions_from 0 both u.clauses ≡ conditions_of (local t r p)
both_are t u same r p end is own with both owns withs boths =
    chosen_are t u same (is_local r p) both
    (λ k. boths k ∙ ap₂ (λ (n : ℕ) (b : Bool). nat_lt k n && b) is (ap₂ (λ (a b : Bool). a || b) (owns k) (withs k))
    ∙ once (nat_lt k (length u.clauses)) (is_base r (clause_at u.clauses k)) (is_param r p (clause_at u.clauses k)))
  where
    once : (x a b : Bool) → x && ((x && a) || (x && b)) ≡ x && (a || b)
    once true a b = refl
    once false a b = refl
