-- Each conjunct is one clause at most.
use Rattle.std.proofs.Common.{◌≡◌, ◌≤◌, ◌+◌, ℕ, zero, suc, Bool, true, false, cond, List, [], ◌∷◌, ◌++◌, map, filter, length, ◌<◌, ◌^◌, ◌⊎◌, inl, inr, refl, sym, ap, ◌∙◌, subst, arith}
use Rattle.std.specs.Prelude.{Option, Some, None, flat_map, is_some, slice_get}
use Rattle.std.proofs.lemmas.Bool.{cases_lt}
use Rattle.pg_value.specs.declared.value.SqlType.{SqlType}
use Rattle.pg_expr.specs.declared.operand.ColRef.{ColRef}
use Rattle.pg_expr.specs.Cond.{Cond}
use Rattle.catalog.specs.Contents.{Contents}
use Rattle.eq_classes.specs.Classes.{Class}
use Rattle.eq_classes.specs.Clauses.{Clause, by_class, by_conjunct, class_clauses, clause, clauses_from, conjunct_clauses, constant_clauses, each_pair, equals, equals_constant, first_in, has_constant, inner_clause, inner_clauses, is_first, one, pair_clause, pair_clauses}
use Rattle.eq_classes.specs.Equality.{as_clause, equality_in, is_column}
use Rattle.eq_classes.specs.Listing.{conjunct_of}
use Rattle.certificate_text.specs.explain_Texts.{conjunct_by}
use Rattle.sql_query.specs.Queries.{Query}
use Rattle.sql_query.specs.WellBound.{IsWellBound, given_with}

-- the numbers of the conjuncts among some clauses rise, from a number on
abbrev Rising : ℕ → List Clause → Type 0
Rising n [] = Unit {0}
Rising n (k ∷ ks) = ((m : ℕ) → conjunct_of k.source ≡ Some m → (n ≤ m) × Rising (suc m) ks) × Rising n ks

none-some : (m : ℕ) → None ≡ Some m → ⊥
none-some m e = cc

same-number : (a b : ℕ) → Some a ≡ Some b → a ≡ b
same-number a b e = cc

no-less : (n : ℕ) (l : List Clause) → Rising n l → (i m : ℕ) → conjunct_by (slice_get l i) ≡ Some m → n ≤ m
no-less n [] h i m e = absurd (none-some m e)
no-less n (k ∷ ks) h zero m e = (h.0 m e).0
no-less n (k ∷ ks) h (suc i) m e = no-less n ks h.1 i m e

one-clause : (n : ℕ) (l : List Clause) → Rising n l → (i j m : ℕ) → conjunct_by (slice_get l i) ≡ Some m → conjunct_by (slice_get l j) ≡ Some m → i ≡ j
one-clause n [] h i j m e f = absurd (none-some m e)
one-clause n (k ∷ ks) h zero zero m e f = refl
one-clause n (k ∷ ks) h zero (suc j) m e f = let low = no-less (suc m) ks (h.0 m e).1 j m f in absurd (omega (arith, low))
one-clause n (k ∷ ks) h (suc i) zero m e f = let low = no-less (suc m) ks (h.0 m f).1 i m e in absurd (omega (arith, low))
one-clause n (k ∷ ks) h (suc i) (suc j) m e f = ap suc (one-clause n ks h.1 i j m e f)

weaker : (n : ℕ) (l : List Clause) → Rising (suc n) l → Rising n l
weaker n [] h = tt
weaker n (k ∷ ks) h = (λ m e. let r = h.0 m e in (let low = r.0 in omega (arith, low), r.1), weaker n ks h.1)

-- no clause is a conjunct
abbrev AreMade : List Clause → Type 0
AreMade [] = Unit {0}
AreMade (k ∷ ks) = (conjunct_of k.source ≡ None) × AreMade ks

made-rise : (n : ℕ) (l : List Clause) → AreMade l → Rising n l
made-rise n [] h = tt
made-rise n (k ∷ ks) h = (λ m e. absurd (none-some m (sym h.0 ∙ e)), made-rise n ks h.1)

made-both : (a b : List Clause) → AreMade a → AreMade b → AreMade (a ++ b)
made-both [] b h g = g
made-both (k ∷ ks) b h g = (h.0, made-both ks b h.1 g)

made-map : {A : Type 0} (f : A → Clause) (xs : List A) → ((x : A) → conjunct_of (f x).source ≡ None) → AreMade (map f xs)
made-map f [] h = tt
made-map f (x ∷ xs) h = (h x, made-map f xs h)

made-flat : {A : Type 0} (f : A → List Clause) (xs : List A) → ((x : A) → AreMade (f x)) → AreMade (flat_map f xs)
made-flat f [] h = tt
made-flat f (x ∷ xs) h = made-both (f x) (flat_map f xs) (h x) (made-flat f xs h)

made-pairs : {A : Type 0} (f : A → A → Clause) (xs : List A) → ((x y : A) → conjunct_of (f x y).source ≡ None) → AreMade (each_pair f xs)
made-pairs f [] h = tt
made-pairs f (x ∷ xs) h = made-both (map (f x) xs) (each_pair f xs) (made-map (f x) xs (h x)) (made-pairs f xs h)

made-inner : (n : ℕ) (c : Class) (x : ColRef) (o : Option ColRef) → AreMade (inner_clause n c x o)
made-inner n c x None = tt
made-inner n c x (Some y) = by (is_column x y) where
  by : (b : Bool) → AreMade (cond b [] (clause (equals c y x) (by_class n c) ∷ []))
  by true = tt
  by false = (refl, tt)

made-class : (n : ℕ) (c : Class) → AreMade (class_clauses n c)
made-class n c = by (has_constant c) where
  by : (b : Bool) → AreMade (cond b (constant_clauses n c) (inner_clauses n c ++ pair_clauses n c))
  by true = made-flat (λ x. map (λ v. clause (equals_constant c x v) (by_class n c)) c.constants) c.members (λ x. made-map (λ v. clause (equals_constant c x v) (by_class n c)) c.constants (λ v. refl))
  by false = made-both (inner_clauses n c) (pair_clauses n c) (made-flat (λ x. inner_clause n c x (first_in c (one x.rel.0))) c.members (λ x. made-inner n c x (first_in c (one x.rel.0))))
      (made-pairs (pair_clause n c) (filter (is_first c) c.members) (λ x y. refl))

made-classes : (n : ℕ) (cs : List Class) → AreMade (clauses_from n cs)
made-classes n [] = tt
made-classes n (c ∷ cs) = made-both (class_clauses n c) (clauses_from (suc n) cs) (made-class n c) (made-classes (suc n) cs)

rising : (type_of : ColRef → SqlType) (n : ℕ) (ks : List Cond) (l : List Clause) → AreMade l → Rising n (conjunct_clauses type_of n ks ++ l)
rising type_of n [] l h = made-rise n l h
rising type_of n (k ∷ ks) l h = by (is_some (equality_in type_of k)) (rising type_of (suc n) ks l h) where
  by : (b : Bool) → Rising (suc n) (conjunct_clauses type_of (suc n) ks ++ l) → Rising n (cond b (conjunct_clauses type_of (suc n) ks) (clause (as_clause type_of k) (by_conjunct n) ∷ conjunct_clauses type_of (suc n) ks) ++ l)
  by true later = weaker n (conjunct_clauses type_of (suc n) ks ++ l) later
  by false later =
      (λ m e. let same = same-number n m e in (omega (arith, same), subst (λ (i : ℕ). Rising (suc i) (conjunct_clauses type_of (suc n) ks ++ l)) same later), weaker n (conjunct_clauses type_of (suc n) ks ++ l) later)

none-back : (l : List Clause) (i m : ℕ) → length l ≤ i → conjunct_by (slice_get l i) ≡ Some m → ⊥
none-back [] i m h e = none-some m e
none-back (k ∷ ks) zero m h e = absurd (omega (arith, h))
none-back (k ∷ ks) (suc i) m h e = none-back ks i m (omega (arith, h)) e

none-made : (l : List Clause) → AreMade l → (i m : ℕ) → conjunct_by (slice_get l i) ≡ Some m → ⊥
none-made [] h i m e = none-some m e
none-made (k ∷ ks) h zero m e = none-some m (sym h.0 ∙ e)
none-made (k ∷ ks) h (suc i) m e = none-made ks h.1 i m e

below : (type_of : ColRef → SqlType) (n : ℕ) (ks : List Cond) (l : List Clause) → AreMade l → (i m : ℕ) → conjunct_by (slice_get (conjunct_clauses type_of n ks ++ l) i) ≡ Some m → m < n + length ks
below type_of n [] l h i m e = absurd (none-made l h i m e)
below type_of n (k ∷ ks) l h i m e = by (is_some (equality_in type_of k)) i (λ j f. below type_of (suc n) ks l h j m f) e where
  by : (b : Bool) (i : ℕ) → ((j : ℕ) → conjunct_by (slice_get (conjunct_clauses type_of (suc n) ks ++ l) j) ≡ Some m → m < suc n + length ks) →
      conjunct_by (slice_get (cond b (conjunct_clauses type_of (suc n) ks) (clause (as_clause type_of k) (by_conjunct n) ∷ conjunct_clauses type_of (suc n) ks) ++ l) i) ≡ Some m → m < n + length (k ∷ ks)
  by true i later e = let low = later i e in omega (arith, low)
  by false zero later e = let same = same-number n m e in omega (arith, same)
  by false (suc i) later e = let low = later i e in omega (arith, low)

module _ (c : Contents) (q : Query) (bound : IsWellBound c q) where
  pub conjunct-once : (i j m : ℕ) → conjunct_by (slice_get q.classes.clauses i) ≡ Some m → conjunct_by (slice_get q.classes.clauses j) ≡ Some m → i ≡ j
  conjunct-once i j m e f =
      let g = given_with c q bound.items in
      let rise : Rising 1 q.classes.clauses = subst (Rising 1) (sym bound.classes.clauses) (rising g.type_of 1 g.conjuncts (clauses_from 0 q.classes.classes) (made-classes 0 q.classes.classes)) in
      one-clause 1 q.classes.clauses rise i j m e f

  -- the number of a conjunct is small
  pub conjunct-small : (i m : ℕ) → conjunct_by (slice_get q.classes.clauses i) ≡ Some m → m < 10 ^ 19
  conjunct-small i m e =
      let g = given_with c q bound.items in
      let few = bound.limits.conjuncts in
      let low = below g.type_of 1 g.conjuncts (clauses_from 0 q.classes.classes) (made-classes 0 q.classes.classes) i m (ap (λ (l : List Clause). conjunct_by (slice_get l i)) (sym bound.classes.clauses) ∙ e) in
      omega (arith, few, low)

-- none of the clauses has a number that none before the last has
pub none-has : (l : List Clause) (n m : ℕ) → ((i : ℕ) → i < n → conjunct_by (slice_get l i) ≡ Some m → ⊥) → length l ≤ n → (i : ℕ) → conjunct_by (slice_get l i) ≡ Some m → ⊥
none-has l n m before all i e = by (cases_lt i n) where
  by : (i < n) ⊎ (n ≤ i) → ⊥
  by (inl low) = before i low e
  by (inr more) = none-back l i m (omega (arith, all, more)) e
