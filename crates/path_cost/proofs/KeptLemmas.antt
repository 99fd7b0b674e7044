-- Conditions of clauses by their numbers, and rows left after them, one after the other.
use Rattle.std.proofs.Common.{◌≡◌, ◌<◌, ◌≤◌, ◌∙◌, ℕ, suc, ◌+◌, ◌-◌, Bool, true, false, cond, List, [], ◌∷◌, refl, sym, ap, subst, arith, length, drop}
use Rattle.std.proofs.lemmas.Grind.{common_steps}
use Rattle.std.proofs.lemmas.List.{drop_more}
use Rattle.std.specs.Prelude.{map, filter, fold, nat_lt, ◌&&◌, ◌||◌}
use Rattle.pg_expr.specs.work.AtomSets.{contains}
use Rattle.eq_classes.specs.Parts.{is_all, is_base, is_join, is_param, is_local}
use Rattle.pg_expr.specs.Cond.{Cond}
use Rattle.catalog.specs.Contents.{Contents}
use Rattle.catalog.specs.Range.{Range}
use Rattle.eq_classes.specs.Clauses.{Clause, ClassTable, Set}
use Rattle.eq_classes.specs.Listing.{clause_at}
use Rattle.exact_rows.specs.Rows.{share_kept}
use Rattle.path_cost.specs.Estimates.{conditions_from, conditions_where, is_number_where, is_pair_of, set_numbers_from}
use Rattle.path_cost.specs.work.Estimates.{either}
use Rattle.path_cost.specs.Selectivity.{weight, weights}
use Rattle.path_cost.proofs.NumberLemmas.{numbers-at, numbers-same}

by-test : (b d : Bool) (x : Cond) (xs : List Cond) → d ≡ b → cond d (x ∷ xs) xs ≡ cond b (x ∷ xs) xs
by-test b d x xs e = cc

pub conditions-at : (ks : List Clause) (chosen : ℕ → Bool) (n : ℕ) (b : Bool) → n < length ks → chosen n ≡ b → conditions_from n chosen (drop n ks) ≡ cond b ((clause_at ks n).cond ∷ conditions_from (n + 1) chosen (drop (n + 1) ks)) (conditions_from (n + 1) chosen (drop (n + 1) ks))
conditions-at ks chosen n b lt e =
    ap (conditions_from n chosen) (drop_more ks n _ lt) ∙ by-test b (chosen n) (clause_at ks n).cond (conditions_from (n + 1) chosen (drop (n + 1) ks)) e

-- what is left of some rows after those conditions of a list, from a number on, that have a number of a set below so many
abbrev pub left_after : Contents → Range → List Cond → (ℕ → Bool) → ℕ → ℕ → ℕ → ℕ
left_after c range es set len n left = fold share_kept left (weights c range es (set_numbers_from n (len - n) set))

module _ (c : Contents) (range : Range) (es : List Cond) (set : ℕ → Bool) (len n left next : ℕ) where
  pub kept-yes : n < len → set n ≡ true → next ≡ share_kept left (weight c range es n) → left_after c range es set len n left ≡ left_after c range es set len (n + 1) next
  kept-yes lt e f =
      ap (λ ns. fold share_kept left (weights c range es ns)) (numbers-at set n len true lt e)
      ∙ ap (left_after c range es set len (n + 1)) (sym f)

  pub kept-no : n < len → set n ≡ false → next ≡ left → left_after c range es set len n left ≡ left_after c range es set len (n + 1) next
  kept-no lt e f =
      ap (λ ns. fold share_kept left (weights c range es ns)) (numbers-at set n len false lt e)
      ∙ ap (left_after c range es set len (n + 1)) (sym f)

-- one row at least is left
pub share-some : (n share left : ℕ) → left ≡ share_kept n share → 1 ≤ left
share-some n share left e = omega (arith, e)

-- a set of numbers that are those of the clauses that pass a test has their conditions
pub where-from : (test : Clause → Bool) (chosen : ℕ → Bool) (ks : List Clause) (n : ℕ) → ((k : ℕ) → k < length ks → chosen (n + k) ≡ test (clause_at ks k)) → conditions_from n chosen ks ≡ conditions_where test ks
where-from test chosen [] n h = refl
where-from test chosen (k ∷ ks) n h =
    let here : chosen n ≡ test k = subst (λ m. chosen m ≡ test k) (let same : n + 0 ≡ n = omega arith in same) (h 0 (omega arith)) in
    let later = where-from test chosen ks (n + 1) (λ j lt. subst (λ m. chosen m ≡ test (clause_at ks j)) (let same : n + suc j ≡ n + 1 + j = omega arith in same) (h (suc j) (omega (arith, lt)))) in
    ap (λ b. cond b (k.cond ∷ conditions_from (n + 1) chosen ks) (conditions_from (n + 1) chosen ks)) here ∙ by (test k) (conditions_from (n + 1) chosen ks) later
  where
    by : (d : Bool) (xs : List Cond) → xs ≡ conditions_where test ks → cond d (k.cond ∷ xs) xs ≡ map (λ (x : Clause). x.cond) (cond d (k ∷ filter test ks) (filter test ks))
    by true xs f = ap (λ ys. k.cond ∷ ys) f
    by false xs f = f

-- the clauses of a relation, and those of its parameterisation
pub where_params : (r : ℕ) (p : Set) (base param : List ℕ) (ks : List Clause) → ((k : ℕ) → contains base k ≡ nat_lt k (length ks) && is_base r (clause_at ks k)) → ((k : ℕ) → contains param k ≡ nat_lt k (length ks) && is_param r p (clause_at ks k)) → conditions_from 0 (either base param) ks ≡ conditions_where (λ k. is_base r k || is_param r p k) ks
where_params r p base param ks h g =
    where-from (λ k. is_base r k || is_param r p k) (either base param) ks 0 (λ k lt. at k lt)
  where
    two : (n m : ℕ) (a b : Bool) → n < m → (nat_lt n m && a) || (nat_lt n m && b) ≡ a || b
    two n m a b lt = grind (arith, common_steps, lt)

    join : (x y u v : Bool) → x ≡ u → y ≡ v → x || y ≡ u || v
    join x y u v e f = cc

    at : (k : ℕ) → k < length ks → either base param (0 + k) ≡ is_base r (clause_at ks k) || is_param r p (clause_at ks k)
    at k lt =
        subst (λ m. either base param m ≡ is_base r (clause_at ks k) || is_param r p (clause_at ks k)) (let same : k ≡ 0 + k = omega arith in same)
        (join (contains base k) (contains param k) (nat_lt k (length ks) && is_base r (clause_at ks k)) (nat_lt k (length ks) && is_param r p (clause_at ks k)) (h k) (g k) ∙ two k (length ks) (is_base r (clause_at ks k)) (is_param r p (clause_at ks k)) lt)

-- the numbers of a set are those of the clauses that pass a test
module _ (t : ClassTable) where
  numbered : (test : Clause → Bool) (set : ℕ → Bool) → ((k : ℕ) → k < length t.clauses → set k ≡ test (clause_at t.clauses k)) → set_numbers_from 0 (length t.clauses) set ≡ set_numbers_from 0 (length t.clauses) (is_number_where test t)
  numbered test set h = numbers-same set (is_number_where test t) 0 (length t.clauses) (λ k low high. h k (omega (arith, high)))

  -- the numbers of a set alone, where a second one is empty
  alone : (test : Clause → Bool) (chosen none : List ℕ) → ((k : ℕ) → contains chosen k ≡ nat_lt k (length t.clauses) && test (clause_at t.clauses k)) → ((k : ℕ) → contains none k ≡ false) → set_numbers_from 0 (length t.clauses) (either chosen none) ≡ set_numbers_from 0 (length t.clauses) (is_number_where test t)
  alone test chosen none h g = numbered test (either chosen none) (λ k lt. one k (length t.clauses) (test (clause_at t.clauses k)) (contains chosen k) (contains none k) lt (h k) (g k))
    where
      one : (n m : ℕ) (a x y : Bool) → n < m → x ≡ nat_lt n m && a → y ≡ false → x || y ≡ a
      one n m a x y lt e f = grind (arith, common_steps, lt, e, f)

-- the numbers of the clauses of a relation, and of its parameterisation
pub params_numbered : (r : ℕ) (p : Set) (base param : List ℕ) (t : ClassTable) → ((k : ℕ) → contains base k ≡ nat_lt k (length t.clauses) && is_base r (clause_at t.clauses k)) → ((k : ℕ) → contains param k ≡ nat_lt k (length t.clauses) && is_param r p (clause_at t.clauses k)) → set_numbers_from 0 (length t.clauses) (either base param) ≡ set_numbers_from 0 (length t.clauses) (is_number_where (is_local r p) t)
params_numbered r p base param t h g =
    numbered t (is_local r p) (either base param) (λ k lt. two k (length t.clauses) (is_base r (clause_at t.clauses k)) (is_param r p (clause_at t.clauses k)) (contains base k) (contains param k) lt (h k) (g k))
  where
    two : (n m : ℕ) (a b x y : Bool) → n < m → x ≡ nat_lt n m && a → y ≡ nat_lt n m && b → x || y ≡ a || b
    two n m a b x y lt e f = grind (arith, common_steps, lt, e, f)

-- the numbers of the clauses inside a set of relations
pub all_numbered : (set : Set) (all none : List ℕ) (t : ClassTable) → ((k : ℕ) → contains all k ≡ nat_lt k (length t.clauses) && is_all set (clause_at t.clauses k)) → ((k : ℕ) → contains none k ≡ false) → set_numbers_from 0 (length t.clauses) (either all none) ≡ set_numbers_from 0 (length t.clauses) (is_number_where (is_all set) t)
all_numbered set all none t h g = alone t (is_all set) all none h g

-- the numbers of the pair clauses of some classes among the clauses that join two sets
pub pairs_numbered : (a b : Set) (keys equal none : List ℕ) (t : ClassTable) → ((k : ℕ) → contains equal k ≡ nat_lt k (length t.clauses) && (is_join a b (clause_at t.clauses k) && is_pair_of keys (clause_at t.clauses k))) → ((k : ℕ) → contains none k ≡ false) → set_numbers_from 0 (length t.clauses) (either equal none) ≡ set_numbers_from 0 (length t.clauses) (is_number_where (λ k. is_join a b k && is_pair_of keys k) t)
pairs_numbered a b keys equal none t h g = alone t (λ k. is_join a b k && is_pair_of keys k) equal none h g

-- inside a list at a place of it
pub inside_twice : (within a b : Bool) → within && ((within && a) && b) ≡ within && (a && b)
inside_twice within a b = grind (arith, common_steps)

-- sets of the same clauses
pub from-same : (n : ℕ) (f g : ℕ → Bool) (ks : List Clause) → ((k : ℕ) → k < length ks → f (n + k) ≡ g (n + k)) → conditions_from n f ks ≡ conditions_from n g ks
from-same n f g [] h = refl
from-same n f g (k ∷ ks) h =
    let here : f n ≡ g n = subst (λ m. f m ≡ g m) (let same : n + 0 ≡ n = omega arith in same) (h 0 (omega arith)) in
    let later = from-same (n + 1) f g ks (λ j lt. subst (λ m. f m ≡ g m) (let same : n + suc j ≡ n + 1 + j = omega arith in same) (h (suc j) (omega (arith, lt)))) in
    ap (λ b. cond b (k.cond ∷ conditions_from (n + 1) f ks) (conditions_from (n + 1) f ks)) here ∙ ap (λ xs. cond (g n) (k.cond ∷ xs) xs) later

-- the numbers of a set of clauses alone, where a second one is empty
pub used_alone : (used none : List ℕ) (t : ClassTable) → ((k : ℕ) → contains none k ≡ false) → set_numbers_from 0 (length t.clauses) (either used none) ≡ set_numbers_from 0 (length t.clauses) (contains used)
used_alone used none t g = numbers-same (either used none) (contains used) 0 (length t.clauses) (λ k low high. only (contains used k) (contains none k) (g k))
  where
    only : (x y : Bool) → y ≡ false → x || y ≡ x
    only x y e = grind (arith, common_steps, e)
