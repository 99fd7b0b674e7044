-- The number of a conjunct tells the clause that it is.
use Prim.Native.Nat.{suc, zero}
use Rattle.std.proofs.Common.{◌≡◌, ◌<◌, ◌≤◌, ℕ, ◌+◌, ◌^◌, Bool, true, false, cond, List, [], ◌∷◌, ◌++◌, length, map, refl, sym, ◌∙◌, ap, arith}
use Rattle.std.specs.Prelude.{Option, None, Some, filter, is_some, slice_get}
use Rattle.std.specs.List.{AllByRecursion, flat_map}
use Rattle.std.proofs.lemmas.Bool.{true≢false}
use Rattle.std.proofs.lemmas.Option.{none-some, same_Some}
use Rattle.pg_value.specs.declared.value.SqlType.{SqlType}
use Rattle.pg_expr.specs.declared.operand.ColRef.{ColRef}
use Rattle.pg_expr.specs.Cond.{Cond}
use Rattle.catalog.specs.Contents.{Contents}
use Rattle.eq_classes.specs.Equality.{as_clause, equality_in, is_column}
use Rattle.eq_classes.specs.Classes.{Class}
use Rattle.eq_classes.specs.Clauses.{Clause, by_class, by_conjunct, class_clauses, clause, clause_list, clauses_from, conjunct_clauses, constant_clauses, each_pair, equals, equals_constant, first_in, has_constant, inner_clause, inner_clauses, is_first, one, pair_clause, pair_clauses}
use Rattle.eq_classes.specs.Listing.{conjunct_of}
use Rattle.sql_query.specs.Queries.{Query}
use Rattle.sql_query.specs.WellBound.{IsWellBound, given_with}
use Rattle.plan_tree.specs.Bitmaps.{condition_at, condition_by, is_or}
use Rattle.explain.specs.Texts.{conjunct_by}

-- a clause that a class makes
pub record IsMade (k : Clause) : Type 0 where
  pub no_conjunct : conjunct_of k.source ≡ None
  pub no_or : is_or k.cond ≡ false

abbrev AreMade : List Clause → Type 0
AreMade ks = AllByRecursion IsMade ks

made-append : (ks ls : List Clause) → AreMade ks → AreMade ls → AreMade (ks ++ ls)
made-append [] ls h g = g
made-append (k ∷ ks) ls h g = (h.0, made-append ks ls h.1 g)

made-map : {A : Type 0} (f : A → Clause) → ((x : A) → IsMade (f x)) → (xs : List A) → AreMade (map f xs)
made-map f h [] = tt
made-map f h (x ∷ xs) = (h x, made-map f h xs)

made-flat : {A : Type 0} (f : A → List Clause) → ((x : A) → AreMade (f x)) → (xs : List A) → AreMade (flat_map f xs)
made-flat f h [] = tt
made-flat f h (x ∷ xs) = made-append (f x) (flat_map f xs) (h x) (made-flat f h xs)

made-pairs : (f : ColRef → ColRef → Clause) → ((x y : ColRef) → IsMade (f x y)) → (xs : List ColRef) → AreMade (each_pair f xs)
made-pairs f h [] = tt
made-pairs f h (x ∷ xs) = made-append (map (f x) xs) (each_pair f xs) (made-map (f x) (h x) xs) (made-pairs f h xs)

made-inner : (n : ℕ) (c : Class) (x : ColRef) (o : Option ColRef) → AreMade (inner_clause n c x o)
made-inner n c x None = tt
made-inner n c x (Some first) = by (is_column x first)
  where
    by : (b : Bool) → AreMade (cond b [] (clause (equals c first x) (by_class n c) ∷ []))
    by true = tt
    by false = (record { no_conjunct = refl; no_or = refl }, tt)

made-class : (n : ℕ) (c : Class) → AreMade (class_clauses n c)
made-class n c = by (has_constant c)
  where
    by : (b : Bool) → AreMade (cond b (constant_clauses n c) (inner_clauses n c ++ pair_clauses n c))
    by true = made-flat (λ x. map (λ v. clause (equals_constant c x v) (by_class n c)) c.constants) (λ x. made-map (λ v. clause (equals_constant c x v) (by_class n c)) (λ v. record { no_conjunct = refl; no_or = refl }) c.constants) c.members
    by false = made-append (inner_clauses n c) (pair_clauses n c)
        (made-flat (λ x. inner_clause n c x (first_in c (one x.rel.0))) (λ x. made-inner n c x (first_in c (one x.rel.0))) c.members)
        (made-pairs (pair_clause n c) (λ x y. record { no_conjunct = refl; no_or = refl }) (filter (is_first c) c.members))

made-classes : (n : ℕ) (cs : List Class) → AreMade (clauses_from n cs)
made-classes n [] = tt
made-classes n (c ∷ cs) = made-append (class_clauses n c) (clauses_from (suc n) cs) (made-class n c) (made-classes (suc n) cs)

none-made : (ks : List Clause) → AreMade ks → (n k : ℕ) → conjunct_by (slice_get ks n) ≡ Some k → ⊥
none-made [] h n k e = none-some k e
none-made (x ∷ xs) h zero k e = none-some k (sym h.0.no_conjunct ∙ e)
none-made (x ∷ xs) h (suc n) k e = none-made xs h.1 n k e

module _ (type_of : ColRef → SqlType) (made : List Clause) (are : AreMade made) where
  abbrev all_from : ℕ → List Cond → List Clause
  all_from j es = conjunct_clauses type_of j es ++ made

  abbrev either : Bool → ℕ → Cond → List Cond → List Clause
  either b j e es = cond b (conjunct_clauses type_of (suc j) es) (clause (as_clause type_of e) (by_conjunct j) ∷ conjunct_clauses type_of (suc j) es) ++ made

  low : (j : ℕ) (es : List Cond) (n k : ℕ) → conjunct_by (slice_get (all_from j es) n) ≡ Some k → j ≤ k
  low j [] n k h = absurd (none-made made are n k h)
  low j (e ∷ es) n k h = by (is_some (equality_in type_of e)) n (λ m g. low (suc j) es m k g) h
    where
      by : (b : Bool) (m : ℕ) → ((i : ℕ) → conjunct_by (slice_get (all_from (suc j) es) i) ≡ Some k → suc j ≤ k) → conjunct_by (slice_get (either b j e es) m) ≡ Some k → j ≤ k
      by true m f g = let more = f m g in omega (arith, more)
      by false zero f g = let same = same_Some j k g in omega (arith, same)
      by false (suc m) f g = let more = f m g in omega (arith, more)

  unique : (j : ℕ) (es : List Cond) (n m k : ℕ) → conjunct_by (slice_get (all_from j es) n) ≡ Some k → conjunct_by (slice_get (all_from j es) m) ≡ Some k → n ≡ m
  unique j [] n m k h g = absurd (none-made made are n k h)
  unique j (e ∷ es) n m k h g = by (is_some (equality_in type_of e)) n m (λ x y p r. unique (suc j) es x y k p r) (λ x p. low (suc j) es x k p) h g
    where
      by : (b : Bool) (x y : ℕ) → ((u v : ℕ) → conjunct_by (slice_get (all_from (suc j) es) u) ≡ Some k → conjunct_by (slice_get (all_from (suc j) es) v) ≡ Some k → u ≡ v) →
          ((u : ℕ) → conjunct_by (slice_get (all_from (suc j) es) u) ≡ Some k → suc j ≤ k) →
          conjunct_by (slice_get (either b j e es) x) ≡ Some k → conjunct_by (slice_get (either b j e es) y) ≡ Some k → x ≡ y
      by true x y f l p r = f x y p r
      by false zero zero f l p r = refl
      by false zero (suc y) f l p r = let same = same_Some j k p in let more = l y r in absurd (omega (arith, same, more))
      by false (suc x) zero f l p r = let same = same_Some j k r in let more = l x p in absurd (omega (arith, same, more))
      by false (suc x) (suc y) f l p r = ap suc (f x y p r)

  -- a clause that no class makes has a number
  found : (j : ℕ) (es : List Cond) (n : ℕ) (x : Clause) → slice_get (all_from j es) n ≡ Some x → is_or x.cond ≡ true → (k : ℕ) × (conjunct_of x.source ≡ Some k) × (k < j + length es)
  found j [] n x h o = absurd (none made are n h)
    where
      none : (ks : List Clause) → AreMade ks → (m : ℕ) → slice_get ks m ≡ Some x → ⊥
      none [] g m e = none-some x e
      none (y ∷ ys) g zero e = true≢false (sym o ∙ ap (λ (z : Clause). is_or z.cond) (sym (same_Some y x e)) ∙ g.0.no_or)
      none (y ∷ ys) g (suc m) e = none ys g.1 m e
  found j (e ∷ es) n x h o = by (is_some (equality_in type_of e)) n (λ m g. found (suc j) es m x g o) h
    where
      more : (k : ℕ) × (conjunct_of x.source ≡ Some k) × (k < suc j + length es) → (k : ℕ) × (conjunct_of x.source ≡ Some k) × (k < j + length (e ∷ es))
      more f = (f.0, f.1, omega (arith, f.2))

      by : (b : Bool) (m : ℕ) → ((i : ℕ) → slice_get (all_from (suc j) es) i ≡ Some x → (k : ℕ) × (conjunct_of x.source ≡ Some k) × (k < suc j + length es)) → slice_get (either b j e es) m ≡ Some x →
          (k : ℕ) × (conjunct_of x.source ≡ Some k) × (k < j + length (e ∷ es))
      by true m f g = more (f m g)
      by false zero f g = (j, ap (λ (z : Clause). conjunct_of z.source) (sym (same_Some (clause (as_clause type_of e) (by_conjunct j)) x g)), omega arith)
      by false (suc m) f g = more (f m g)

-- the number of the conjunct that an OR clause is
pub record HasConjunct (q : Query) (n : ℕ) : Type 0 where
  pub number : ℕ
  pub is : conjunct_by (slice_get q.classes.clauses n) ≡ Some number
  pub few : number < 2 ^ 64

module _ (c : Contents) (q : Query) (bound : IsWellBound c q) where
  same_list : q.classes.clauses ≡ clause_list (given_with c q bound.items).type_of (given_with c q bound.items).conjuncts q.classes.classes
  same_list = bound.classes.clauses

  pub or-conjunct : (n : ℕ) → n < length q.classes.clauses → is_or (condition_at q n) ≡ true → HasConjunct q n
  or-conjunct n lt o = by (slice_get q.classes.clauses n) refl o
    where
      most : length (given_with c q bound.items).conjuncts ≤ 32
      most = bound.limits.conjuncts

      past : (ks : List Clause) (m : ℕ) → m < length ks → slice_get ks m ≡ None → ⊥
      past [] m less e = omega (arith, less)
      past (x ∷ xs) zero less e = none-some x (sym e)
      past (x ∷ xs) (suc m) less e = past xs m (omega (arith, less)) e

      by : (k : Option Clause) → slice_get q.classes.clauses n ≡ k → is_or (condition_by k) ≡ true → HasConjunct q n
      by None e h = absurd (past q.classes.clauses n lt e)
      by (Some x) e h =
          let f = found (given_with c q bound.items).type_of (clauses_from 0 q.classes.classes) (made-classes 0 q.classes.classes) 1 (given_with c q bound.items).conjuncts n x (sym (ap (λ (ks : List Clause). slice_get ks n) same_list) ∙ e) h in
          record { number = f.0; is = ap conjunct_by e ∙ f.1; few = omega (arith, f.2, most) }

  pub conjunct-same : (n m k : ℕ) → conjunct_by (slice_get q.classes.clauses n) ≡ Some k → conjunct_by (slice_get q.classes.clauses m) ≡ Some k → n ≡ m
  conjunct-same n m k h g =
      unique (given_with c q bound.items).type_of (clauses_from 0 q.classes.classes) (made-classes 0 q.classes.classes) 1 (given_with c q bound.items).conjuncts n m k
      (sym (ap (λ (ks : List Clause). conjunct_by (slice_get ks n)) same_list) ∙ h) (sym (ap (λ (ks : List Clause). conjunct_by (slice_get ks m)) same_list) ∙ g)
