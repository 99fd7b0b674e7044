-- What the parts of a clause list read; and that the clauses over one relation are those inside it.
use Rattle.std.proofs.Common.{◌≡◌, ℕ, Bool, true, false, not, ◌&&◌, ◌||◌, ⊎_elim, List, [], ◌∷◌, ◌++◌, map, filter, Option, Some, None, refl, sym, ap, ◌∙◌, subst}
use Rattle.std.proofs.lemmas.Bool.{cases_Bool, and_parts, and_from, or_cases, or_left, or_right, true≢false, eqb-true}
use Rattle.pg_value.specs.declared.value.SqlType.{SqlType}
use Rattle.pg_value.specs.declared.value.Value.{Value}
use Rattle.pg_value.specs.Truths.{is_true}
use Rattle.pg_expr.specs.declared.operand.ColRef.{ColRef}
use Rattle.pg_expr.specs.Cond.{Cond}
use Rattle.pg_expr.specs.Columns.{each_column, names_rel}
use Rattle.pg_expr.specs.Truths.{truth_at}
use Rattle.pg_expr.proofs.ColumnLaws.{agree-truth}
use Rattle.eq_classes.specs.Equality.{is_column}
use Rattle.eq_classes.specs.Classes.{Class}
use Rattle.eq_classes.specs.Clauses.{Set, one, first_in, is_first, ClauseSource, by_conjunct, by_class, Clause, clause, equals, equals_constant, conjunct_clauses, constant_clauses, inner_clause, inner_clauses, pair_clause, pair_clauses, has_constant, class_clauses, clauses_from, clause_list}
use Rattle.eq_classes.specs.Parts.{union, has_column, is_inside, names_some, is_lowest, are_lowest, is_all_from, is_all, is_base, is_join, is_param, is_left_out, is_join_param}
use Rattle.eq_classes.specs.work.Holding.{hold}
use Rattle.eq_classes.proofs.ListLemmas.{IsIn, Before, in_parts, in_filter, before_filter, earlier_in, later_in, some_same}
use Rattle.eq_classes.proofs.HoldLemmas.{in_map, in_flat_map, in_each_pair, hold_at, hold_from}
use Rattle.eq_classes.proofs.ClassHoldLemmas.{same_is, column_self}
use Rattle.eq_classes.proofs.ClassLemmas.{lowest_at, first_inside}
use Rattle.eq_classes.proofs.ClasswiseLemmas.{same_truth}
use Rattle.eq_classes.proofs.SplitLemmas.{of_conjuncts, of_classes}

-- what the clauses of a class are
pub data Made (n : ℕ) (c : Class) : Clause → Type 0 where
  over_one : (k : Clause) → k.source ≡ by_class n c → Made n c k
  pair : (x y : ColRef) → Before x y c.members → first_in c (one x.rel.0) ≡ Some x → first_in c (one y.rel.0) ≡ Some y → Made n c (pair_clause n c x y)

inner_source : (n : ℕ) (c : Class) (x : ColRef) (o : Option ColRef) (k : Clause) → IsIn k (inner_clause n c x o) → k.source ≡ by_class n c
inner_source n c x None k h = absurd h
inner_source n c x (Some g) k h = ⊎_elim
    (λ (t : is_column x g ≡ true). absurd (rw t at h))
    (λ (t : is_column x g ≡ false). let i : IsIn k (clause (equals c g x) (by_class n c) ∷ []) = rw t at h in ⊎_elim (λ (e : k ≡ clause (equals c g x) (by_class n c)). ap (λ (a : Clause). a.source) e) (λ (none : ⊥). absurd none) i)
    (cases_Bool (is_column x g))

module _ (n : ℕ) (c : Class) where
  constant_made : (k : Clause) → IsIn k (constant_clauses n c) → Made n c k
  constant_made k i =
      let w = in_flat_map (λ y. map (λ u. clause (equals_constant c y u) (by_class n c)) c.constants) c.members k i in
      let v = in_map (λ u. clause (equals_constant c w.0 u) (by_class n c)) c.constants k w.2 in
      over_one k (ap (λ (a : Clause). a.source) v.2)

  inner_made : (k : Clause) → IsIn k (inner_clauses n c) → Made n c k
  inner_made k i =
      let w = in_flat_map (λ y. inner_clause n c y (first_in c (one y.rel.0))) c.members k i in
      over_one k (inner_source n c w.0 (first_in c (one (w.0).rel.0)) k w.2)

  pair_made : (k : Clause) → IsIn k (pair_clauses n c) → Made n c k
  pair_made k i =
      let w = in_each_pair (pair_clause n c) (filter (is_first c) c.members) k i in
      let fx = in_filter (is_first c) c.members w.0 (earlier_in w.0 w.1 (filter (is_first c) c.members) w.2) in
      let fy = in_filter (is_first c) c.members w.1 (later_in w.0 w.1 (filter (is_first c) c.members) w.2) in
      subst (Made n c) (sym w.3) (pair w.0 w.1 (before_filter (is_first c) c.members w.0 w.1 w.2) (same_is w.0 (first_in c (one (w.0).rel.0)) fx.1) (same_is w.1 (first_in c (one (w.1).rel.0)) fy.1))

  pub class_made : (k : Clause) → IsIn k (class_clauses n c) → Made n c k
  class_made k i = ⊎_elim
      (λ (t : has_constant c ≡ true). constant_made k (rw t at i))
      (λ (t : has_constant c ≡ false). ⊎_elim (λ (h : IsIn k (inner_clauses n c)). inner_made k h) (λ (h : IsIn k (pair_clauses n c)). pair_made k h) (in_parts k (inner_clauses n c) (pair_clauses n c) (rw t at i)))
      (cases_Bool (has_constant c))

-- each clause of a list that is chosen is inside a set
abbrev pub Reads : Set → (Clause → Bool) → List Clause → Type 0
Reads set chosen ks = (k : Clause) → IsIn k ks → chosen k ≡ true → is_inside set k.cond ≡ true

reads_append : (set : Set) (chosen : Clause → Bool) (ks ls : List Clause) → Reads set chosen ks → Reads set chosen ls → Reads set chosen (ks ++ ls)
reads_append set chosen ks ls p q k i is = ⊎_elim (λ (h : IsIn k ks). p k h is) (λ (h : IsIn k ls). q k h is) (in_parts k ks ls i)

-- where they are, the values of columns in the set alone matter
pub hold_local : (set : Set) (chosen : Clause → Bool) (ks : List Clause) → Reads set chosen ks → (b d : ColRef → Value) → ((x : ColRef) → set x.rel.0 ≡ true → b x ≡ d x) → hold b chosen ks ≡ hold d chosen ks
hold_local set chosen ks reads b d agree =
    let alike : (k : Clause) → IsIn k ks → chosen k ≡ true → is_true (truth_at b k.cond) ≡ is_true (truth_at d k.cond) = λ k i is.
    ap is_true (agree-truth (λ x. set x.rel.0) b d (λ x h. agree x h) k.cond (and_parts (each_column (λ x. set x.rel.0) k.cond) (has_column k.cond || set 0) (reads k i is)).0) in
    same_truth _ _
    (λ h. hold_from d chosen ks (λ k i is. sym (alike k i is) ∙ hold_at b chosen ks h k i is))
    (λ h. hold_from b chosen ks (λ k i is. alike k i is ∙ hold_at d chosen ks h k i is))

both_inside : (set : Set) (c : Class) (x y : ColRef) → set x.rel.0 ≡ true → set y.rel.0 ≡ true → is_inside set (equals c x y) ≡ true
both_inside set c x y p q = and_from _ _ (and_from _ _ p q) refl

lowest_inside : (c : Class) (set : Set) (r : ℕ) → is_lowest c set r ≡ true → set r ≡ true
lowest_inside c set r h = let w = lowest_at c set r h in ap set (sym w.2) ∙ first_inside c set w.0 w.1

of_made : (set : Set) (chosen : Clause → Bool) (n : ℕ) (c : Class)
    → ((e : Cond) → chosen (clause e (by_class n c)) ≡ true → is_inside set e ≡ true)
    → ((x y : ColRef) → chosen (pair_clause n c x y) ≡ true → is_inside set (equals c x y) ≡ true)
    → (k : Clause) → Made n c k → chosen k ≡ true → is_inside set k.cond ≡ true
of_made set chosen n c over pairs k (over_one j e) is = over j.cond (ap (λ (s : ClauseSource). chosen (clause j.cond s)) (sym e) ∙ is)
of_made set chosen n c over pairs k (pair x y before fx fy) is = pairs x y is

over_same : (r : ℕ) (n : ℕ) (c : Class) (k : Clause) → k.source ≡ by_class n c → is_all (one r) k ≡ is_base r k
over_same r n c k e = ap (λ (s : ClauseSource). is_all_from (one r) k.cond s) e

lowest_pair : (s t : Set) (n : ℕ) (c : Class) (x y : ColRef) → are_lowest c s t x.rel.0 y.rel.0 ≡ true → is_inside (union s t) (equals c x y) ≡ true
lowest_pair s t n c x y h = ⊎_elim
    (λ (w : is_lowest c s x.rel.0 && is_lowest c t y.rel.0 ≡ true).
    let parts = and_parts (is_lowest c s x.rel.0) (is_lowest c t y.rel.0) w in
    both_inside (union s t) c x y (or_left (s x.rel.0) (t x.rel.0) (lowest_inside c s x.rel.0 parts.0)) (or_right (s y.rel.0) (t y.rel.0) (lowest_inside c t y.rel.0 parts.1)))
    (λ (w : is_lowest c t x.rel.0 && is_lowest c s y.rel.0 ≡ true).
    let parts = and_parts (is_lowest c t x.rel.0) (is_lowest c s y.rel.0) w in
    both_inside (union s t) c x y (or_right (s x.rel.0) (t x.rel.0) (lowest_inside c t x.rel.0 parts.0)) (or_left (s y.rel.0) (t y.rel.0) (lowest_inside c s y.rel.0 parts.1)))
    (or_cases (is_lowest c s x.rel.0 && is_lowest c t y.rel.0) (is_lowest c t x.rel.0 && is_lowest c s y.rel.0) h)

module _ (type_of : ColRef → SqlType) (conjuncts : List Cond) (classes : List Class) where
  abbrev table : List Clause
  table = clause_list type_of conjuncts classes

  -- a part reads a set where its conjunct clauses, its clauses of a class over one relation and its pair clauses do
  reads_from : (set : Set) (chosen : Clause → Bool)
      → ((e : Cond) (n : ℕ) → chosen (clause e (by_conjunct n)) ≡ true → is_inside set e ≡ true)
      → ((n : ℕ) (c : Class) (e : Cond) → chosen (clause e (by_class n c)) ≡ true → is_inside set e ≡ true)
      → ((n : ℕ) (c : Class) (x y : ColRef) → chosen (pair_clause n c x y) ≡ true → is_inside set (equals c x y) ≡ true)
      → Reads set chosen table
  reads_from set chosen own over pairs =
      let none : Reads set chosen [] = λ k i is. absurd i in
      reads_append set chosen (conjunct_clauses type_of 1 conjuncts) (clauses_from 0 classes)
      (of_conjuncts (Reads set chosen) none (reads_append set chosen) type_of 1 conjuncts (λ e n k i is. ⊎_elim
      (λ (same : k ≡ clause e (by_conjunct n)). ap (λ (a : Clause). is_inside set a.cond) same ∙ own e n (ap chosen (sym same) ∙ is))
      (λ (no : ⊥). absurd no) i))
      (of_classes (Reads set chosen) none (reads_append set chosen) 0 classes (λ n c h k i is. of_made set chosen n c (over n c) (pairs n c) k (class_made n c k i) is))

  pub all_reads : (set : Set) → Reads set (is_all set) table
  all_reads set = reads_from set (is_all set) (λ e n h. h) (λ n c e h. h) (λ n c x y h.
      let parts = and_parts (is_lowest c set x.rel.0) (set y.rel.0) h in
      both_inside set c x y (lowest_inside c set x.rel.0 parts.0) parts.1)

  pub base_reads : (r : ℕ) → Reads (one r) (is_base r) table
  base_reads r = λ k i h. h

  pub join_reads : (s t : Set) → Reads (union s t) (is_join s t) table
  join_reads s t = reads_from (union s t) (is_join s t)
      (λ e n h. (and_parts (is_inside (union s t) e) (not (is_inside s e) && not (is_inside t e)) h).0)
      (λ n c e h. absurd (true≢false (sym h)))
      (λ n c x y h. lowest_pair s t n c x y h)

  pub param_reads : (r : ℕ) (p : Set) → Reads (union (one r) p) (is_param r p) table
  param_reads r p = reads_from (union (one r) p) (is_param r p)
      (λ e n h. (and_parts (is_inside (union (one r) p) e) (names_rel r e && names_some p e) h).0)
      (λ n c e h. absurd (true≢false (sym h)))
      (λ n c x y h. lowest_pair (one r) p n c x y h)

  -- the clauses inside a set of one relation are those over it
  module _ (differ : (c : Class) → IsIn c classes → (x y : ColRef) → Before x y c.members → is_column x y ≡ false) (b : ColRef → Value) where
    abbrev Same : ℕ → List Clause → Type 0
    Same r ks = (k : Clause) → IsIn k ks → is_all (one r) k ≡ is_base r k

    same_append : (r : ℕ) (ks ls : List Clause) → Same r ks → Same r ls → Same r (ks ++ ls)
    same_append r ks ls p q k i = ⊎_elim (λ (h : IsIn k ks). p k h) (λ (h : IsIn k ls). q k h) (in_parts k ks ls i)

    pair_apart : (r : ℕ) (n : ℕ) (c : Class) → IsIn c classes → (x y : ColRef) → Before x y c.members → first_in c (one x.rel.0) ≡ Some x → first_in c (one y.rel.0) ≡ Some y → x.rel.0 ≡ r → y.rel.0 ≡ r → ⊥
    pair_apart r n c ic x y before fx fy p q =
        let same : x ≡ y = some_same x y (sym fx ∙ ap (λ (k : ℕ). first_in c (one k)) (p ∙ sym q) ∙ fy) in
        true≢false (sym (column_self x) ∙ ap (is_column x) same ∙ differ c ic x y before)

    made_same : (r : ℕ) (n : ℕ) (c : Class) → IsIn c classes → (k : Clause) → Made n c k → is_all (one r) k ≡ is_base r k
    made_same r n c ic k (over_one j e) = over_same r n c j e
    made_same r n c ic k (pair x y before fx fy) = same_truth _ _
        (λ h.
        let parts = and_parts (is_lowest c (one r) x.rel.0) (one r y.rel.0) h in
        absurd (pair_apart r n c ic x y before fx fy (eqb-true x.rel.0 r (lowest_inside c (one r) x.rel.0 parts.0)) (eqb-true y.rel.0 r parts.1)))
        (λ h.
        let sides = and_parts (one r x.rel.0) (one r y.rel.0) (and_parts (one r x.rel.0 && one r y.rel.0) true h).0 in
        absurd (pair_apart r n c ic x y before fx fy (eqb-true x.rel.0 r sides.0) (eqb-true y.rel.0 r sides.1)))

    pub base_is_all : (r : ℕ) → hold b (is_all (one r)) table ≡ hold b (is_base r) table
    base_is_all r =
        let none : Same r [] = λ k i. absurd i in
        let each : Same r table = same_append r (conjunct_clauses type_of 1 conjuncts) (clauses_from 0 classes)
        (of_conjuncts (Same r) none (same_append r) type_of 1 conjuncts (λ e n k i. ⊎_elim
        (λ (same : k ≡ clause e (by_conjunct n)). ap (λ (a : Clause). is_all (one r) a) same ∙ ap (λ (a : Clause). is_base r a) (sym same))
        (λ (no : ⊥). absurd no) i))
        (of_classes (Same r) none (same_append r) 0 classes (λ n c ic k i. made_same r n c ic k (class_made n c k i))) in
        same_truth _ _
        (λ h. hold_from b (is_base r) table (λ k i is. hold_at b (is_all (one r)) table h k i (each k i ∙ is)))
        (λ h. hold_from b (is_all (one r)) table (λ k i is. hold_at b (is_base r) table h k i (sym (each k i) ∙ is)))

  pub join_param_reads : (s p : Set) (r : ℕ) → Reads (union s (one r)) (is_join_param s r p) table
  join_param_reads s p r k i h = join_reads s (one r) k i (and_parts (is_join s (one r) k) (not (is_left_out r p k.cond k.source)) h).0
