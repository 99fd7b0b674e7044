-- Sets that hold the relations that a condition or a class names.
use Rattle.std.proofs.Common.{◌≡◌, ◌↔◌, ℕ, zero, suc, ◌+◌, ◌<◌, ◌≤◌, ◌^◌, Bool, true, false, not, ◌&&◌, ◌||◌, ◌⊎◌, inl, inr, ⊎_elim, nat_eq, nat_lt, List, [], ◌∷◌, ◌++◌, length, drop, get_or, slice_index_or, AllPairs, IfSome, IfNone, Option, Some, None, refl, sym, ap, ◌∙◌, subst, arith}
use Rattle.std.specs.List.{list_any}
use Rattle.std.proofs.lemmas.Bool.{cases_Bool, cases_lt, and_parts, and_from, or_cases, or_left, or_right, true≢false, eq-eqb, eqb-true}
use Rattle.opfamily.specs.pg_base_Sets.{has}
use Rattle.opfamily.specs.pg_base_work_Sets.{Meets}
use Rattle.opfamily.specs.pg_base_rel_set_RelSet.{RelSet}
use Rattle.opfamily.specs.pg_base_numbers_RelNo.{RelNo}
use Rattle.opfamily.specs.pg_base_SetLaws.{has-below}
use Rattle.pg_expr.specs.declared.operand.ColRef.{ColRef}
use Rattle.pg_expr.specs.declared.operand.Operand.{Operand}
use Rattle.pg_expr.specs.declared.operand.Operand.TheVariants.{Col, Lit}
use Rattle.pg_expr.specs.Cond.{Cond, compare, is_null, is_not_null, bool_col, const, all_of, any_of, negation, Conds, no_conds, cond_and}
use Rattle.pg_expr.specs.Columns.{names_column, some_column, some_column_of, each_column, names_rel}
use Rattle.pg_expr.specs.Pushed.{is_lower}
use Rattle.pg_expr.specs.work.View as view
use Rattle.pg_expr.proofs.ColumnLaws.{inside-each}
use Rattle.eq_classes.specs.declared.clauses.Listed.{Listed}
use Rattle.eq_classes.specs.Classes.{Class}
use Rattle.eq_classes.specs.Clauses.{Set, first_in}
use Rattle.eq_classes.specs.Parts.{has_column, is_inside, names_some, has_in, is_relation_of, is_lowest}
use Rattle.eq_classes.specs.work.Parts.{is_number}
use Rattle.eq_classes.specs.work.Building.{IsMasked}
use Rattle.eq_classes.specs.Listing.{clause_at}
use Rattle.eq_classes.specs.work.Listing.{AreNamed, clauses_of}
use Rattle.eq_classes.proofs.ListLemmas.{IsIn, Before, found_in, found_passes, found_before, any_from, any_at, pairs_at}
use Rattle.eq_classes.proofs.ClassLemmas.{some_first, first_inside, first_member}
use Rattle.eq_classes.proofs.ClasswiseLemmas.{same_truth}
use Rattle.eq_classes.proofs.InsideLemmas.{column_both}
use Rattle.eq_classes.proofs.UniqueLemmas.{lower_cases}

-- a column that passes one test shows each test that it passes
module _ (test other : ColRef → Bool) (more : (x : ColRef) → test x ≡ true → other x ≡ true) where
  some_side : (o : Operand) → names_column test o ≡ true → names_column other o ≡ true
  some_side (Col c) h = more c h
  some_side (Lit v) h = h

  mutual
    pub some_more : (e : Cond) → some_column test e ≡ true → some_column other e ≡ true
    some_more (compare op l r) h = ⊎_elim
        (λ (p : names_column test l ≡ true). or_left (names_column other l) (names_column other r) (some_side l p))
        (λ (p : names_column test r ≡ true). or_right (names_column other l) (names_column other r) (some_side r p))
        (or_cases (names_column test l) (names_column test r) h)
    some_more (is_null c) h = more c h
    some_more (is_not_null c) h = more c h
    some_more (bool_col c) h = more c h
    some_more (const t) h = h
    some_more (all_of cs) h = some_more_of cs h
    some_more (any_of cs) h = some_more_of cs h
    some_more (negation c) h = some_more c h

    some_more_of : (cs : Conds) → some_column_of test cs ≡ true → some_column_of other cs ≡ true
    some_more_of no_conds h = h
    some_more_of (cond_and c cs) h = ⊎_elim
        (λ (p : some_column test c ≡ true). or_left (some_column other c) (some_column_of other cs) (some_more c p))
        (λ (p : some_column_of test cs ≡ true). or_right (some_column other c) (some_column_of other cs) (some_more_of cs p))
        (or_cases (some_column test c) (some_column_of test cs) h)

-- a column that passes a test is of a relation that is named
module _ (test : ColRef → Bool) where
  named_side : (o : Operand) → names_column test o ≡ true → (x : ColRef) × (test x ≡ true) × (names_column (λ c. nat_eq x.rel.0 c.rel.0) o ≡ true)
  named_side (Col c) h = (c, h, eq-eqb c.rel.0 c.rel.0 refl)
  named_side (Lit v) h = absurd (true≢false (sym h))

  mutual
    pub named_some : (e : Cond) → some_column test e ≡ true → (x : ColRef) × (test x ≡ true) × (names_rel x.rel.0 e ≡ true)
    named_some (compare op l r) h = ⊎_elim
        (λ (p : names_column test l ≡ true). let w = named_side l p in (w.0, w.1, or_left _ _ w.2))
        (λ (p : names_column test r ≡ true). let w = named_side r p in (w.0, w.1, or_right (names_column (λ c. nat_eq (w.0).rel.0 c.rel.0) l) _ w.2))
        (or_cases (names_column test l) (names_column test r) h)
    named_some (is_null c) h = (c, h, eq-eqb c.rel.0 c.rel.0 refl)
    named_some (is_not_null c) h = (c, h, eq-eqb c.rel.0 c.rel.0 refl)
    named_some (bool_col c) h = (c, h, eq-eqb c.rel.0 c.rel.0 refl)
    named_some (const t) h = absurd (true≢false (sym h))
    named_some (all_of cs) h = named_some_of cs h
    named_some (any_of cs) h = named_some_of cs h
    named_some (negation c) h = named_some c h

    named_some_of : (cs : Conds) → some_column_of test cs ≡ true → (x : ColRef) × (test x ≡ true) × (some_column_of (λ c. nat_eq x.rel.0 c.rel.0) cs ≡ true)
    named_some_of no_conds h = absurd (true≢false (sym h))
    named_some_of (cond_and c cs) h = ⊎_elim
        (λ (p : some_column test c ≡ true). let w = named_some c p in (w.0, w.1, or_left _ _ w.2))
        (λ (p : some_column_of test cs ≡ true). let w = named_some_of cs p in (w.0, w.1, or_right (some_column (λ d. nat_eq (w.0).rel.0 d.rel.0) c) _ w.2))
        (or_cases (some_column test c) (some_column_of test cs) h)

module _ (m : ℕ) (e : Cond) (is : (k : ℕ) → has m k ≡ names_rel k e) where
  no_column : ((k : ℕ) → has m k ≡ false) → has_column e ≡ false
  no_column none = ⊎_elim
      (λ (h : has_column e ≡ true). let w = named_some (λ x. true) e h in absurd (true≢false (sym w.2 ∙ sym (is (w.0).rel.0) ∙ none (w.0).rel.0)))
      (λ (h : has_column e ≡ false). h)
      (cases_Bool (has_column e))

  none_named : has_column e ≡ false → (k : ℕ) → has m k ≡ false
  none_named none k = ⊎_elim
      (λ (h : has m k ≡ true). absurd (true≢false (sym (some_more (λ c. nat_eq k c.rel.0) (λ c. true) (λ x p. refl) e (sym (is k) ∙ h)) ∙ none)))
      (λ (h : has m k ≡ false). h)
      (cases_Bool (has m k))

  -- a condition is inside a set where the relations that it names are
  pub inside_is : (s : ℕ) (within empty : Bool) → (within ≡ true ↔ ((k : ℕ) → has m k ≡ true → has s k ≡ true)) → (empty ≡ true ↔ ((k : ℕ) → has m k ≡ false))
      → within && (not empty || has s 0) ≡ is_inside (has s) e
  inside_is s within empty w z = same_truth _ _
      (λ h.
      let parts = and_parts within (not empty || has s 0) h in
      and_from _ _ (inside-each (has s) e (λ k names. w.0 parts.0 k (is k ∙ names)))
      (⊎_elim
      (λ (c : has_column e ≡ true). or_left _ _ c)
      (λ (c : has_column e ≡ false). let t : empty ≡ true = z.1 (none_named c) in or_right (has_column e) (has s 0) (⊎_elim (λ (f : not empty ≡ true). absurd (true≢false (sym f ∙ ap not t))) (λ (f : has s 0 ≡ true). f) (or_cases (not empty) (has s 0) parts.1)))
      (cases_Bool (has_column e))))
      (λ h.
      let parts = and_parts (each_column (λ x. has s x.rel.0) e) (has_column e || has s 0) h in
      and_from _ _ (w.1 (λ k t.
      let c = column_both (λ x. has s x.rel.0) (λ x. nat_eq k x.rel.0) e parts.0 (sym (is k) ∙ t) in
      ap (has s) (eqb-true k (c.0).rel.0 c.2) ∙ c.1))
      (⊎_elim
      (λ (t : empty ≡ true). or_right (not empty) (has s 0) (⊎_elim (λ (f : has_column e ≡ true). absurd (true≢false (sym f ∙ no_column (z.0 t)))) (λ (f : has s 0 ≡ true). f) (or_cases (has_column e) (has s 0) parts.1)))
      (λ (t : empty ≡ false). or_left (not empty) (has s 0) (ap not t))
      (cases_Bool empty)))

  pub some_is : (p : ℕ) (meets : Bool) → (meets ≡ true ↔ Meets m p) → meets ≡ names_some (has p) e
  some_is p meets w = same_truth _ _
      (λ h.
      let c = w.0 h in
      some_more (λ x. nat_eq c.0 x.rel.0) (λ x. has p x.rel.0) (λ x t. ap (has p) (sym (eqb-true c.0 x.rel.0 t)) ∙ c.2) e (sym (is c.0) ∙ c.1))
      (λ h. let c = named_some (λ x. has p x.rel.0) e h in w.1 ((c.0).rel.0, is (c.0).rel.0 ∙ c.2, c.1))

-- the relations of a class
module _ (m : ℕ) (c : Class) (is : IsMasked m c.members) where
  masked_at : (s : ℕ) → s < 2 ^ 16 → (x : ColRef) → IsIn x c.members → has s x.rel.0 ≡ true → has m x.rel.0 ≡ true
  masked_at s small x ix h = is x.rel.0 (has-below s x.rel.0 small h) ∙ any_from (λ y. nat_eq y.rel.0 x.rel.0) c.members x ix (eq-eqb x.rel.0 x.rel.0 refl)

  at_masked : (k : ℕ) → k < 16 → has m k ≡ true → (x : ColRef) × IsIn x c.members × (x.rel.0 ≡ k)
  at_masked k low h =
      let w = any_at (λ y. nat_eq y.rel.0 k) c.members (sym (is k low) ∙ h) in
      (w.0, w.1, eqb-true (w.0).rel.0 k w.2)

  pub class_meets : (s : ℕ) (meets : Bool) → s < 2 ^ 16 → (meets ≡ true ↔ Meets m s) → meets ≡ has_in c (has s)
  class_meets s meets small w = same_truth _ _
      (λ h. let k = w.0 h in let x = at_masked k.0 (has-below s k.0 small k.2) k.1 in any_from (λ y. has s y.rel.0) c.members x.0 x.1 (ap (has s) x.2 ∙ k.2))
      (λ h. let x = any_at (λ y. has s y.rel.0) c.members h in w.1 ((x.0).rel.0, masked_at s small x.0 x.1 x.2, x.2))

  first_none : (s : ℕ) → s < 2 ^ 16 → ((k : ℕ) → has m k && has s k ≡ false) → (o : Option ColRef) → first_in c (has s) ≡ o → (r : ℕ) → is_relation_of o r ≡ false
  first_none s small none None e r = refl
  first_none s small none (Some x) e r =
      let inside = first_inside c (has s) x e in
      absurd (true≢false (sym (and_from _ _ (masked_at s small x (first_member c (has s) x e) inside) inside) ∙ none x.rel.0))

  -- members that rise show the lowest relation first
  pub lowest_some : AllPairs (λ x y. is_lower x y ≡ true) c.members → (s : ℕ) → s < 2 ^ 16 → (k : ℕ) → has m k && has s k ≡ true → ((j : ℕ) → j < k → has m j && has s j ≡ false) → (r : ℕ) → is_lowest c (has s) r ≡ nat_eq k r
  lowest_some rising s small k both least r =
      let parts = and_parts (has m k) (has s k) both in
      let x = at_masked k (has-below s k small parts.1) parts.0 in
      let inside : has s (x.0).rel.0 ≡ true = ap (has s) x.2 ∙ parts.1 in
      let y = some_first c (has s) x.0 x.1 inside in
      let not_more : (y.0).rel.0 ≤ (x.0).rel.0 = ⊎_elim
      (λ (e : x.0 ≡ y.0). let e' : (x.0).rel.0 ≡ (y.0).rel.0 = ap (λ (z : ColRef). z.rel.0) e in omega (arith, e'))
      (λ (b : Before y.0 x.0 c.members). ⊎_elim
      (λ (lt : (y.0).rel.0 < (x.0).rel.0). omega (arith, lt))
      (λ (lt : ((y.0).rel.0 ≡ (x.0).rel.0) × ((y.0).col.0 < (x.0).col.0)). omega (arith, lt.0))
      (lower_cases y.0 x.0 (pairs_at (λ u v. is_lower u v ≡ true) c.members rising y.0 x.0 b)))
      (found_before (λ z. has s z.rel.0) c.members y.0 x.0 y.1 x.1 inside) in
      let there = first_inside c (has s) y.0 y.1 in
      let not_less : k ≤ (y.0).rel.0 = ⊎_elim
      (λ (lt : (y.0).rel.0 < k). absurd (true≢false (sym (and_from _ _ (masked_at s small y.0 (first_member c (has s) y.0 y.1) there) there) ∙ least (y.0).rel.0 lt)))
      (λ (ge : k ≤ (y.0).rel.0). ge)
      (cases_lt (y.0).rel.0 k) in
      let same : (y.0).rel.0 ≡ k = omega (arith, not_more, not_less, x.2) in
      ap (λ (o : Option ColRef). is_relation_of o r) y.1 ∙ ap (λ (n : ℕ). nat_eq n r) same

  pub lowest_none : (s : ℕ) → s < 2 ^ 16 → ((k : ℕ) → has m k && has s k ≡ false) → (r : ℕ) → is_lowest c (has s) r ≡ false
  lowest_none s small none r = first_none s small none (first_in c (has s)) refl r

  pub lowest_is : AllPairs (λ x y. is_lower x y ≡ true) c.members → (s : ℕ) → s < 2 ^ 16 → (both : ℕ) → ((k : ℕ) → has both k ≡ has m k && has s k) → (o : Option RelNo)
      → IfSome o (λ r. has both r.0 ≡ true) → IfSome o (λ r. (k : ℕ) → k < r.0 → has both k ≡ false) → IfNone o ((k : ℕ) → has both k ≡ false) → (r : ℕ) → is_lowest c (has s) r ≡ is_number o r
  lowest_is rising s small both are None found least none r = lowest_none s small (λ k. sym (are k) ∙ none k) r
  lowest_is rising s small both are (Some k) found least none r = lowest_some rising s small k.0 (sym (are k.0) ∙ found) (λ j lt. sym (are j) ∙ least j lt) r

-- the set beside an entry
pub named_low : (ss : List RelSet) (ks : List Listed) → AreNamed ss ks → length ss ≡ length ks
named_low [] [] h = refl
named_low [] (k ∷ ks) h = absurd h
named_low (s ∷ ss) [] h = absurd h
named_low (s ∷ ss) (k ∷ ks) h = ap suc (named_low ss ks h.1)

pub clauses_length : (cs : List Class) (ks : List Listed) → length (clauses_of cs ks) ≡ length ks
clauses_length cs [] = refl
clauses_length cs (k ∷ ks) = ap suc (clauses_length cs ks)

pub named_at : (cs : List Class) (ss : List RelSet) (ks : List Listed) → AreNamed ss ks → (n : ℕ) → n < length ss → (d : RelSet) (r : ℕ) → has (get_or ss n d).0 r ≡ names_rel r (clause_at (clauses_of cs ks) n).cond
named_at cs [] ks h n lt d r = absurd (omega (arith, lt))
named_at cs (s ∷ ss) [] h n lt d r = absurd h
named_at cs (s ∷ ss) (k ∷ ks) h zero lt d r = h.0 r
named_at cs (s ∷ ss) (k ∷ ks) h (suc n) lt d r = named_at cs ss ks h.1 n (omega (arith, lt)) d r

-- one more set
pub named_next : (ks : List Listed) (i : ℕ) (k : Listed) (s : RelSet) (rest : List RelSet) → i < length ks → k ≡ get_or ks i k → ((r : ℕ) → has s.0 r ≡ names_rel r (view.cond k.expr)) → AreNamed rest (drop (i + 1) ks) → AreNamed (s ∷ rest) (drop i ks)
named_next [] i k s rest lt is names h = absurd (omega (arith, lt))
named_next (j ∷ ks) zero k s rest lt is names h =
    let one : 0 + 1 ≡ suc zero = omega arith in
    (λ r. names r ∙ ap (λ (l : Listed). names_rel r (view.cond l.expr)) is, subst (λ (n : ℕ). AreNamed rest (drop n (j ∷ ks))) one h)
named_next (j ∷ ks) (suc i) k s rest lt is names h =
    let more : suc i + 1 ≡ suc (i + 1) = omega arith in
    named_next ks i k s rest (omega (arith, lt)) is names (subst (λ (n : ℕ). AreNamed rest (drop n (j ∷ ks))) more h)
