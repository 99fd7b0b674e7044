-- The clauses of a table inside a union of two sets, and those that a scan with a parameter tests itself.
use Rattle.std.proofs.Common.{◌≡◌, ℕ, suc, Bool, true, false, not, ◌&&◌, ◌||◌, inl, inr, ⊎_elim, List, [], ◌∷◌, ◌++◌, is_some, refl, sym, ap, ◌∙◌}
use Rattle.std.proofs.lemmas.Bool.{cases_Bool, and_parts, or_cases, or_left, or_right, true≢false, eqb-true}
use Rattle.std.proofs.Math.Bool.{and-true}
use Rattle.opfamily.specs.pg_value_value_SqlType.{SqlType}
use Rattle.opfamily.specs.pg_value_value_Value.{Value}
use Rattle.opfamily.specs.pg_value_Truths.{is_true}
use Rattle.pg_expr.specs.declared.operand.ColRef.{ColRef}
use Rattle.pg_expr.specs.Cond.{Cond}
use Rattle.pg_expr.specs.Columns.{names_rel}
use Rattle.pg_expr.specs.Truths.{truth_at}
use Rattle.eq_classes.specs.Equality.{equality_in, as_clause}
use Rattle.eq_classes.specs.Classes.{Class}
use Rattle.eq_classes.specs.Clauses.{Set, one, by_conjunct, Clause, clause, conjunct_clauses, class_clauses, clauses_from, clause_list}
use Rattle.eq_classes.specs.Parts.{union, is_inside, names_some, is_all, is_join, is_param, is_join_param}
use Rattle.eq_classes.specs.work.Holding.{hold}
use Rattle.eq_classes.proofs.ListLemmas.{IsIn}
use Rattle.eq_classes.proofs.HoldLemmas.{hold-append}
use Rattle.eq_classes.proofs.ClassHoldLemmas.{IsSound}
use Rattle.eq_classes.proofs.ClassLemmas.{AreApart}
use Rattle.eq_classes.proofs.ClasswiseLemmas.{class_splits, class_params}
use Rattle.eq_classes.proofs.InsideLemmas.{inside_more, names_inside, names_apart}

regroup : (a b j as' bs js : Bool) → (a && (b && j)) && (as' && (bs && js)) ≡ (a && as') && ((b && bs) && (j && js))
regroup false b j as' bs js = refl
regroup true false j true bs js = refl
regroup true false j false bs js = refl
regroup true true false true true js = refl
regroup true true false true false js = refl
regroup true true false false bs js = refl
regroup true true true as' bs js = refl

regroup_two : (p j ps js : Bool) → (p && j) && (ps && js) ≡ (p && ps) && (j && js)
regroup_two false j ps js = refl
regroup_two true true ps js = refl
regroup_two true false true js = refl
regroup_two true false false js = refl

-- a clause is in the one side, in the other, in both, joins them, or is of neither
one_clause : (ia ib iu t : Bool) → (ia ≡ true → iu ≡ true) → (ib ≡ true → iu ≡ true)
    → not iu || t ≡ (not ia || t) && ((not ib || t) && (not (iu && (not ia && not ib)) || t))
one_clause true ib false t ha hb = absurd (true≢false (sym (ha refl)))
one_clause false true false t ha hb = absurd (true≢false (sym (hb refl)))
one_clause false false false t ha hb = refl
one_clause true true true true ha hb = refl
one_clause true true true false ha hb = refl
one_clause true false true true ha hb = refl
one_clause true false true false ha hb = refl
one_clause false true true true ha hb = refl
one_clause false true true false ha hb = refl
one_clause false false true t ha hb = refl

-- a clause that a scan tests itself is one of those that join it
one_param : (p j t : Bool) → (p ≡ true → j ≡ true) → not j || t ≡ (not p || t) && (not (j && not p) || t)
one_param true true true h = refl
one_param true true false h = refl
one_param true false t h = absurd (true≢false (sym (h refl)))
one_param false true t h = refl
one_param false false t h = refl

module _ (b : ColRef → Value) (whole one' other join : Clause → Bool) where
  abbrev pub Splits : List Clause → Type 0
  Splits ks = hold b whole ks ≡ hold b one' ks && (hold b other ks && hold b join ks)

  pub splits-append : (ks ls : List Clause) → Splits ks → Splits ls → Splits (ks ++ ls)
  splits-append ks ls p q =
      rw (hold-append b whole ks ls, hold-append b one' ks ls, hold-append b other ks ls, hold-append b join ks ls, p, q)
      (regroup (hold b one' ks) (hold b other ks) (hold b join ks) (hold b one' ls) (hold b other ls) (hold b join ls))

module _ (b : ColRef → Value) (given whole one' other : Clause → Bool) where
  -- where the given clauses hold
  abbrev pub Parts : List Clause → Type 0
  Parts ks = hold b given ks ≡ true → hold b whole ks ≡ hold b one' ks && hold b other ks

  pub parts-append : (ks ls : List Clause) → Parts ks → Parts ls → Parts (ks ++ ls)
  parts-append ks ls p q h =
      let both = and_parts (hold b given ks) (hold b given ls) (sym (hold-append b given ks ls) ∙ h) in
      rw (hold-append b whole ks ls, hold-append b one' ks ls, hold-append b other ks ls, p both.0, q both.1)
      (regroup_two (hold b one' ks) (hold b other ks) (hold b one' ls) (hold b other ls))

-- a fact of lists of clauses that holds of each clause of a conjunct holds of the list
module _ (P : List Clause → Type 0) (none : P []) (append : (ks ls : List Clause) → P ks → P ls → P (ks ++ ls)) where
  pub of_conjuncts : (type_of : ColRef → SqlType) (m : ℕ) (ks : List Cond) → ((e : Cond) (n : ℕ) → P (clause e (by_conjunct n) ∷ [])) → P (conjunct_clauses type_of m ks)
  of_conjuncts type_of m [] single = none
  of_conjuncts type_of m (k ∷ ks) single = ⊎_elim
      (λ (e : is_some (equality_in type_of k) ≡ true). rw e (of_conjuncts type_of (suc m) ks single))
      (λ (e : is_some (equality_in type_of k) ≡ false). rw e (append (clause (as_clause type_of k) (by_conjunct m) ∷ []) (conjunct_clauses type_of (suc m) ks) (single (as_clause type_of k) m) (of_conjuncts type_of (suc m) ks single)))
      (cases_Bool (is_some (equality_in type_of k)))

  pub of_classes : (n : ℕ) (cs : List Class) → ((m : ℕ) (c : Class) → IsIn c cs → P (class_clauses m c)) → P (clauses_from n cs)
  of_classes n [] each = none
  of_classes n (c ∷ cs) each = append (class_clauses n c) (clauses_from (suc n) cs) (each n c (inl refl)) (of_classes (suc n) cs (λ m d i. each m d (inr i)))

module _ (b : ColRef → Value) (type_of : ColRef → SqlType) (conjuncts : List Cond) (classes : List Class) (sound : (c : Class) → IsIn c classes → IsSound b c) where
  abbrev table : List Clause
  table = clause_list type_of conjuncts classes

  pub all_splits : (s t : Set) → AreApart s t → hold b (is_all (union s t)) table ≡ hold b (is_all s) table && (hold b (is_all t) table && hold b (is_join s t) table)
  all_splits s t apart =
      let P : List Clause → Type 0 = Splits b (is_all (union s t)) (is_all s) (is_all t) (is_join s t) in
      let append = splits-append b (is_all (union s t)) (is_all s) (is_all t) (is_join s t) in
      append (conjunct_clauses type_of 1 conjuncts) (clauses_from 0 classes)
      (of_conjuncts P refl append type_of 1 conjuncts (λ e n.
      rw (and-true (not (is_inside (union s t) e) || is_true (truth_at b e)), and-true (not (is_inside s e) || is_true (truth_at b e)), and-true (not (is_inside t e) || is_true (truth_at b e)), and-true (not (is_join s t (clause e (by_conjunct n))) || is_true (truth_at b e)))
      (one_clause (is_inside s e) (is_inside t e) (is_inside (union s t) e) (is_true (truth_at b e)) (inside_more s (union s t) e (λ k is. or_left (s k) (t k) is)) (inside_more t (union s t) e (λ k is. or_right (s k) (t k) is)))))
      (of_classes P refl append 0 classes (λ m c i. class_splits b m c (sound c i) s t apart))

  -- a conjunct clause that a scan of r tests itself joins it
  param_joins : (s p : Set) (r : ℕ) → ((k : ℕ) → p k ≡ true → s k ≡ true) → s r ≡ false → (e : Cond) (n : ℕ) → is_param r p (clause e (by_conjunct n)) ≡ true → is_join s (one r) (clause e (by_conjunct n)) ≡ true
  param_joins s p r part out e n h =
      let a = and_parts (is_inside (union (one r) p) e) (names_rel r e && names_some p e) h in
      let names = and_parts (names_rel r e) (names_some p e) a.1 in
      let w : is_inside (union s (one r)) e ≡ true = inside_more (union (one r) p) (union s (one r)) e (λ k is. ⊎_elim (λ (at : one r k ≡ true). or_right (s k) (one r k) at) (λ (at : p k ≡ true). or_left (s k) (one r k) (part k at)) (or_cases (one r k) (p k) is)) a.0 in
      let x : is_inside s e ≡ false = names_inside s r e out names.0 in
      let y : is_inside (one r) e ≡ false = names_apart (one r) p e (λ k is. ⊎_elim (λ (at : p k ≡ true). absurd (true≢false (sym (part k at) ∙ ap s (eqb-true k r is) ∙ out))) (λ (at : p k ≡ false). at) (cases_Bool (p k))) names.1 in
      rw (w, x, y) refl

  pub params_split : (s p : Set) (r : ℕ) → ((k : ℕ) → p k ≡ true → s k ≡ true) → s r ≡ false → hold b (is_all s) table ≡ true
      → hold b (is_join s (one r)) table ≡ hold b (is_param r p) table && hold b (is_join_param s r p) table
  params_split s p r part out h =
      let P : List Clause → Type 0 = Parts b (is_all s) (is_join s (one r)) (is_param r p) (is_join_param s r p) in
      let append = parts-append b (is_all s) (is_join s (one r)) (is_param r p) (is_join_param s r p) in
      append (conjunct_clauses type_of 1 conjuncts) (clauses_from 0 classes)
      (of_conjuncts P (λ none. refl) append type_of 1 conjuncts (λ e n holds.
      rw (and-true (not (is_join s (one r) (clause e (by_conjunct n))) || is_true (truth_at b e)), and-true (not (is_param r p (clause e (by_conjunct n))) || is_true (truth_at b e)), and-true (not (is_join_param s r p (clause e (by_conjunct n))) || is_true (truth_at b e)))
      (one_param (is_param r p (clause e (by_conjunct n))) (is_join s (one r) (clause e (by_conjunct n))) (is_true (truth_at b e)) (param_joins s p r part out e n))))
      (of_classes P (λ none. refl) append 0 classes (λ m c i. class_params b m c (sound c i) s p r part out))
      h
