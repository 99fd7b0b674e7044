-- Bounds and tests part the conditions, which are clauses of the relation and its parameterisation.
use Rattle.std.proofs.Common.{◌≡◌, ◌<◌, ◌+◌, ℕ, Bool, true, false, not, cond, ◌&&◌, ◌||◌, nat_eq, nat_lt, List, [], ◌∷◌, length, map, filter, take, refl, sym, ap, ◌∙◌}
use Rattle.std.specs.List.{enumerate_from, list_any}
use Rattle.std.proofs.lemmas.Bool.{and_parts, true≢false, ltb-true}
use Rattle.catalog.specs.opfamily_classes_Method.{Method}
use Rattle.catalog.specs.opfamily_classes_Method_TheVariants.{Btree, Hash}
use Rattle.pg_base.specs.declared.numbers.IndexNo.{IndexNo}
use Rattle.pg_expr.specs.Cond.{Cond}
use Rattle.catalog.specs.Contents.{Contents, index_at}
use Rattle.eq_classes.specs.Clauses.{Clause, Set, ClassTable}
use Rattle.eq_classes.specs.Listing.{clause_at}
use Rattle.index_match.specs.Numbered.{Numbered, numbered, has_number, those, local, conditions_of}
use Rattle.index_match.specs.Conditions.{allowed, is_condition, index_conditions}
use Rattle.index_match.specs.Bounds.{bounding, index_bounds}
use Rattle.index_match.specs.work.Bounds.{index_tests}
use Rattle.index_match.proofs.BoundLemmas.{any_filter, number_filter}
use Rattle.index_match.proofs.FoundLemmas.{those_are, chosen_numbers}
use Rattle.pg_base.proofs.ListLemmas.{any-take as any_take}
use Rattle.eq_classes.specs.Parts.{is_local}

pub clauses_by_number : (test : Clause → Bool) (n : ℕ) (ks : List Clause) →
    conditions_of (map (λ (p : ℕ × Clause). numbered (p.0, p.1.cond)) (filter (λ (p : ℕ × Clause). test p.1) (enumerate_from n ks))) ≡ map (λ (k : Clause). k.cond) (filter test ks)
clauses_by_number test n [] = refl
clauses_by_number test n (k ∷ ks) = by (clauses_by_number test (n + 1) ks) (test k)
  where
    by : conditions_of (map (λ (p : ℕ × Clause). numbered (p.0, p.1.cond)) (filter (λ (p : ℕ × Clause). test p.1) (enumerate_from (n + 1) ks))) ≡ map (λ (k : Clause). k.cond) (filter test ks) → (b : Bool)
        → conditions_of (map (λ (p : ℕ × Clause). numbered (p.0, p.1.cond)) (cond b ((n, k) ∷ filter (λ (p : ℕ × Clause). test p.1) (enumerate_from (n + 1) ks)) (filter (λ (p : ℕ × Clause). test p.1) (enumerate_from (n + 1) ks))))
        ≡ map (λ (j : Clause). j.cond) (cond b (k ∷ filter test ks) (filter test ks))
    by later true = ap (λ (es : List Cond). k.cond ∷ es) later
    by later false = later

-- the numbers of the clauses that pass a test
those_numbers : (t : ClassTable) (test : Clause → Bool) (n : ℕ) → has_number (those t test) n ≡ nat_lt n (length t.clauses) && test (clause_at t.clauses n)
those_numbers t test n =
    let chosen = λ (j : ℕ). nat_lt j (length t.clauses) && test (clause_at t.clauses j) in
    ap (λ (cs : List Numbered). has_number cs n) (sym (those_are t test chosen (λ j. refl))) ∙ chosen_numbers chosen t.clauses n ∙ again (nat_lt n (length t.clauses)) (test (clause_at t.clauses n))
  where
    again : (a b : Bool) → a && (a && b) ≡ a && b
    again true b = refl
    again false b = refl

any_allowed : (m : Method) (cs : List Numbered) (n : ℕ) → has_number (allowed m cs) n ≡ true → has_number cs n ≡ true
any_allowed Btree cs n h = h
any_allowed Hash cs n h = any_take (λ (c : Numbered). nat_eq n c.number) cs h

pub conditions_local : (c : Contents) (t : ClassTable) (i : IndexNo) (r : ℕ) (p : Set) (n : ℕ) → has_number (index_conditions c t i r p) n ≡ true →
    (n < length t.clauses) × (is_local r p (clause_at t.clauses n) ≡ true)
conditions_local c t i r p n h =
    let d = index_at c i in
    let among : has_number (local t r p) n ≡ true =
    any_filter (λ (e : Numbered). nat_eq n e.number) (λ (e : Numbered). is_condition d r e.cond) (local t r p)
    (any_allowed d.method (filter (λ (e : Numbered). is_condition d r e.cond) (local t r p)) n h) in
    let parts = and_parts (nat_lt n (length t.clauses)) (is_local r p (clause_at t.clauses n)) (sym (those_numbers t (is_local r p) n) ∙ among) in
    (ltb-true n (length t.clauses) parts.0, parts.1)

module _ (c : Contents) (t : ClassTable) (i : IndexNo) (r : ℕ) (p : Set) (n : ℕ) where
  abbrev cs : List Numbered
  cs = index_conditions c t i r p

  abbrev bs : List Numbered
  bs = bounding (index_at c i).method r (index_at c i).keys (index_conditions c t i r p)

  bound_numbers : has_number (index_bounds c t i r p) n ≡ has_number cs n && has_number bs n
  bound_numbers = number_filter (has_number bs) cs n

  test_numbers : has_number (index_tests c t i r p) n ≡ has_number cs n && not (has_number (index_bounds c t i r p) n)
  test_numbers = number_filter (λ m. not (has_number (index_bounds c t i r p) m)) cs n

  pub in_either : has_number (index_bounds c t i r p) n || has_number (index_tests c t i r p) n ≡ has_number cs n
  in_either =
      ap (λ (b : Bool). has_number (index_bounds c t i r p) n || b) test_numbers
      ∙ ap (λ (b : Bool). b || (has_number cs n && not b)) bound_numbers ∙ by (has_number cs n) (has_number bs n)
    where
      by : (a b : Bool) → (a && b) || (a && not (a && b)) ≡ a
      by true true = refl
      by true false = refl
      by false b = refl

  pub not_in_both : has_number (index_bounds c t i r p) n && has_number (index_tests c t i r p) n ≡ false
  not_in_both = ap (λ (b : Bool). has_number (index_bounds c t i r p) n && b) test_numbers ∙ by (has_number (index_bounds c t i r p) n) (has_number cs n)
    where
      by : (a b : Bool) → a && (b && not a) ≡ false
      by true true = refl
      by true false = refl
      by false b = refl
