-- The conditions of the clauses of a set, clause by clause.
use Rattle.std.proofs.Common.{◌≡◌, ◌+◌, ◌<◌, ℕ, Bool, true, false, List, [], ◌∷◌, ◌++◌, length, map, drop, sym, ap, ◌∙◌, append_assoc}
use Rattle.std.proofs.lemmas.List.{map-append}
use Rattle.pg_expr.specs.Cond.{Cond}
use Rattle.eq_classes.specs.Clauses.{Clause}
use Rattle.eq_classes.specs.Listing.{clause_at}
use Rattle.path_cost.specs.Estimates.{conditions_from}
use Rattle.path_cost.proofs.KeptLemmas.{conditions-at}

module _ {A : Type 0} (f : A → Cond) (ks : List Clause) (set : ℕ → Bool) (n : ℕ) (all : List Cond) (found : List A) (lt : n < length ks) (so_far : map f found ++ conditions_from n set (drop n ks) ≡ all) where
  -- a clause of the set, and any other
  pub taken : (x : A) (found' : List A) → set n ≡ true → f x ≡ (clause_at ks n).cond → found' ≡ found ++ x ∷ [] → map f found' ++ conditions_from (n + 1) set (drop (n + 1) ks) ≡ all
  taken x found' in_set is new =
      ap (λ (l : List A). map f l ++ conditions_from (n + 1) set (drop (n + 1) ks)) new
      ∙ ap (λ (l : List Cond). l ++ conditions_from (n + 1) set (drop (n + 1) ks)) (map-append f found (x ∷ []))
      ∙ append_assoc (map f found) (f x ∷ []) (conditions_from (n + 1) set (drop (n + 1) ks))
      ∙ ap (λ (e : Cond). map f found ++ e ∷ conditions_from (n + 1) set (drop (n + 1) ks)) is
      ∙ ap (λ (l : List Cond). map f found ++ l) (sym (conditions-at ks set n true lt in_set)) ∙ so_far

  pub left_out : (found' : List A) → set n ≡ false → found' ≡ found → map f found' ++ conditions_from (n + 1) set (drop (n + 1) ks) ≡ all
  left_out found' out new =
      ap (λ (l : List A). map f l ++ conditions_from (n + 1) set (drop (n + 1) ks)) new
      ∙ ap (λ (l : List Cond). map f found ++ l) (sym (conditions-at ks set n false lt out)) ∙ so_far
