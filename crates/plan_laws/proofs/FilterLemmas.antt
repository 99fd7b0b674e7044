-- Filters of pairs, of scans and of clause lists, on plain lists.
use Rattle.std.proofs.Common.{◌≡◌, ℕ, ◌+◌, Bool, true, false, not, cond, ◌&&◌, ◌||◌, List, [], ◌∷◌, map, flat_map, filter, refl, sym, ap, ap₂, ◌∙◌, ⊎_elim}
use Rattle.std.specs.List.{AllByRecursion, list_all, enumerate_from}
use Rattle.std.proofs.lemmas.List.Elements.{filter-append}
use Rattle.std.proofs.lemmas.Bool.{cases_Bool, true≢false}
use Rattle.pg_value.specs.declared.value.Value.{Value}
use Rattle.pg_value.specs.Truths.{is_true}
use Rattle.pg_expr.specs.declared.operand.ColRef.{ColRef}
use Rattle.pg_expr.specs.Truths.{truth_at}
use Rattle.eq_classes.specs.Clauses.{Clause}
use Rattle.eq_classes.specs.work.Holding.{hold}
use Rattle.plan_tree.specs.index_match_Numbered.{numbered, those, conditions_of}
use Rattle.sql_query.specs.Queries.{Query}
use Rattle.sql_query.specs.Worlds.{World}
use Rattle.sql_query.specs.Tuples.{Tuple, value_at}
use Rattle.sql_query.specs.Meaning.{all_true}
use Rattle.plan_laws.proofs.PermLemmas.{Perm, none, keep, turn, join}
use Rattle.plan_laws.proofs.PermLemmas.{Perm-append}

-- a filter of pairs is a filter of each side and of what joins them
module _ {T : Type 0} (mix : T → T → T) (left right whole joining : T → Bool) (law : (s u : T) → whole (mix s u) ≡ left s && (right u && joining (mix s u))) where
  inner_fails : (s : T) → left s ≡ false → (us : List T) → filter whole (map (mix s) us) ≡ []
  inner_fails s fails [] = refl
  inner_fails s fails (u ∷ us) = rw (law s u, fails) (inner_fails s fails us)

  inner_passes : (s : T) → left s ≡ true → (us : List T) → filter joining (map (mix s) (filter right us)) ≡ filter whole (map (mix s) us)
  inner_passes s passes [] = refl
  inner_passes s passes (u ∷ us) =
      rw (law s u, passes, ← inner_passes s passes us)
      (elim (right u) as (λ v. filter joining (map (mix s) (cond v (u ∷ filter right us) (filter right us))) ≡ cond (v && joining (mix s u)) (mix s u ∷ filter joining (map (mix s) (filter right us))) (filter joining (map (mix s) (filter right us))))
      [ true ↦ refl | false ↦ refl ])

  pub pairs_filtered : (ss us : List T) → flat_map (λ s. filter joining (map (mix s) (filter right us))) (filter left ss) ≡ filter whole (flat_map (λ s. map (mix s) us) ss)
  pairs_filtered [] us = refl
  pairs_filtered (s ∷ ss) us =
      rw (filter-append whole (map (mix s) us) (flat_map (λ t. map (mix t) us) ss), ← pairs_filtered ss us)
      (⊎_elim
      (λ (passes : left s ≡ true). rw (passes, ← inner_passes s passes us) refl)
      (λ (fails : left s ≡ false). rw (fails, inner_fails s fails us) refl)
      (cases_Bool (left s)))

-- rows that are tested in part before they are joined
module _ {R T : Type 0} (made : R → T) (early : R → Bool) (late right joining : T → Bool) (mix : T → T) (law : (x : R) → right (made x) && joining (mix (made x)) ≡ early x && late (mix (made x))) where
  pub early_and_late : (xs : List R) → filter late (map mix (map made (filter early xs))) ≡ filter joining (map mix (filter right (map made xs)))
  early_and_late [] = refl
  early_and_late (x ∷ xs) = by (early_and_late xs) (early x) (right (made x)) (late (mix (made x))) (joining (mix (made x))) refl refl refl refl (law x)
    where
      by : filter late (map mix (map made (filter early xs))) ≡ filter joining (map mix (filter right (map made xs)))
          → (e r l j : Bool) → early x ≡ e → right (made x) ≡ r → late (mix (made x)) ≡ l → joining (mix (made x)) ≡ j → r && j ≡ e && l
          → filter late (map mix (map made (cond (early x) (x ∷ filter early xs) (filter early xs)))) ≡ filter joining (map mix (cond (right (made x)) (made x ∷ filter right (map made xs)) (filter right (map made xs))))
      by more true true true true a b c d h = rw (a, b, c, d) (ap (λ l. mix (made x) ∷ l) more)
      by more true true true false a b c d h = absurd (true≢false (sym h))
      by more true true false true a b c d h = absurd (true≢false h)
      by more true true false false a b c d h = rw (a, b, c, d) more
      by more true false true j a b c d h = absurd (true≢false (sym h))
      by more true false false j a b c d h = rw (a, b, c) more
      by more false true l true a b c d h = absurd (true≢false h)
      by more false true l false a b c d h = rw (a, b, d) more
      by more false false l j a b c d h = rw (a, b) more

-- tests that follow from the last one change nothing
pub filter_follows : {X : Type 0} (p q : X → Bool) (xs : List X) → AllByRecursion (λ x. p x ≡ true → q x ≡ true) xs → filter p (filter q xs) ≡ filter p xs
filter_follows p q [] h = refl
filter_follows {X} p q (x ∷ xs) h = by (filter_follows p q xs h.1) (p x) (q x) refl refl h.0
  where
    by : filter p (filter q xs) ≡ filter p xs → (a b : Bool) → p x ≡ a → q x ≡ b → (p x ≡ true → q x ≡ true) → filter p (cond (q x) (x ∷ filter q xs) (filter q xs)) ≡ cond (p x) (x ∷ filter p xs) (filter p xs)
    by more true true e f follows = rw (f, e) (ap (λ l. x ∷ l) more)
    by more true false e f follows = absurd (true≢false (sym (follows e) ∙ f))
    by more false true e f follows = rw (f, e) more
    by more false false e f follows = rw (f, e) more

pub filter_alike : {X : Type 0} (p q : X → Bool) (xs : List X) → ((x : X) → p x ≡ q x) → filter p xs ≡ filter q xs
filter_alike p q [] h = refl
filter_alike p q (x ∷ xs) h = ap₂ (λ (b : Bool) l. cond b (x ∷ l) l) (h x) (filter_alike p q xs h)

-- tests that agree at each element
pub filter_where : {X Y : Type 0} (f : X → Y) (p q : Y → Bool) (xs : List X) → AllByRecursion (λ x. p (f x) ≡ q (f x)) xs → filter p (map f xs) ≡ filter q (map f xs)
filter_where f p q [] h = refl
filter_where f p q (x ∷ xs) h = ap₂ (λ (b : Bool) l. cond b (f x ∷ l) l) h.0 (filter_where f p q xs h.1)

pub each_Perm : {X : Type 0} (P : X → Type 0) (xs ys : List X) → Perm xs ys → AllByRecursion P xs → AllByRecursion P ys
each_Perm P _ _ none h = tt
each_Perm P _ _ (keep x xs ys p) h = (h.0, each_Perm P xs ys p h.1)
each_Perm P _ _ (turn x y xs) h = (h.1.0, (h.0, h.1.1))
each_Perm P _ _ (join xs ys zs p r) h = each_Perm P ys zs r (each_Perm P xs ys p h)

-- congruence where each outer element has a property
pub Perm-flat_map_where : {A B : Type 0} (P : A → Type 0) (f g : A → List B) → ((x : A) → P x → Perm (f x) (g x)) → (xs : List A) → AllByRecursion P xs → Perm (flat_map f xs) (flat_map g xs)
Perm-flat_map_where P f g e [] h = none
Perm-flat_map_where P f g e (x ∷ xs) h = Perm-append (f x) (g x) (flat_map f xs) (flat_map g xs) (e x h.0) (Perm-flat_map_where P f g e xs h.1)

-- the conditions of the clauses that pass a test are True where those clauses hold
those_hold_from : (b : ColRef → Value) (test : Clause → Bool) (n : ℕ) (ks : List Clause)
    → list_all (λ e. is_true (truth_at b e)) (conditions_of (map (λ (p : ℕ × Clause). numbered (p.0, p.1.cond)) (filter (λ (p : ℕ × Clause). test p.1) (enumerate_from n ks)))) ≡ hold b test ks
those_hold_from b test n [] = refl
those_hold_from b test n (k ∷ ks) =
    rw (← those_hold_from b test (n + 1) ks)
    (elim (test k) as (λ v. list_all (λ e. is_true (truth_at b e)) (conditions_of (map (λ (p : ℕ × Clause). numbered (p.0, p.1.cond)) (cond v ((n, k) ∷ filter (λ (p : ℕ × Clause). test p.1) (enumerate_from (n + 1) ks)) (filter (λ (p : ℕ × Clause). test p.1) (enumerate_from (n + 1) ks)))))
    ≡ (not v || is_true (truth_at b k.cond)) && list_all (λ e. is_true (truth_at b e)) (conditions_of (map (λ (p : ℕ × Clause). numbered (p.0, p.1.cond)) (filter (λ (p : ℕ × Clause). test p.1) (enumerate_from (n + 1) ks)))))
    [ true ↦ refl | false ↦ refl ])

pub those_hold : (w : World) (q : Query) (t : Tuple) (test : Clause → Bool) → all_true w q t (conditions_of (those q.classes test)) ≡ hold (value_at w q t) test q.classes.clauses
those_hold w q t test = those_hold_from (value_at w q t) test 0 q.classes.clauses

-- clauses of two tests together
and_four : (x y a b c d : Bool) → a && b ≡ x → c && d ≡ y → x && y ≡ (a && c) && (b && d)
and_four x y true true true true e f = ap₂ (λ u v. u && v) (sym e) (sym f)
and_four x y true true true false e f = ap₂ (λ u v. u && v) (sym e) (sym f)
and_four x y true true false d e f = ap₂ (λ u v. u && v) (sym e) (sym f)
and_four x y true false true d e f = ap₂ (λ u v. u && v) (sym e) (sym f)
and_four x y true false false d e f = ap₂ (λ u v. u && v) (sym e) (sym f)
and_four x y false b c d e f = ap₂ (λ u v. u && v) (sym e) (sym f)

one_of_two : (p r t : Bool) → (not p || t) && (not r || t) ≡ not (p || r) || t
one_of_two true true true = refl
one_of_two true true false = refl
one_of_two true false true = refl
one_of_two true false false = refl
one_of_two false true t = refl
one_of_two false false t = refl

pub hold_either : (b : ColRef → Value) (p r : Clause → Bool) (ks : List Clause) → hold b (λ k. p k || r k) ks ≡ hold b p ks && hold b r ks
hold_either b p r [] = refl
hold_either b p r (k ∷ ks) =
    ap (λ (v : Bool). (not (p k || r k) || is_true (truth_at b k.cond)) && v) (hold_either b p r ks)
    ∙ and_four (not (p k || r k) || is_true (truth_at b k.cond)) (hold b p ks && hold b r ks) (not (p k) || is_true (truth_at b k.cond)) (not (r k) || is_true (truth_at b k.cond)) (hold b p ks) (hold b r ks) (one_of_two (p k) (r k) (is_true (truth_at b k.cond))) refl

pub hold_alike : (b : ColRef → Value) (p r : Clause → Bool) (ks : List Clause) → ((k : Clause) → p k ≡ r k) → hold b p ks ≡ hold b r ks
hold_alike b p r [] h = refl
hold_alike b p r (k ∷ ks) h = ap₂ (λ (u v : Bool). (not u || is_true (truth_at b k.cond)) && v) (h k) (hold_alike b p r ks h)
