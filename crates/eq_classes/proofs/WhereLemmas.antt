-- The clauses of all relations hold exactly where every conjunct is true.
use Rattle.std.proofs.Common.{◌≡◌, ℕ, suc, Bool, true, false, not, ◌||◌, ◌⊎◌, inl, inr, ⊎_elim, List, [], ◌∷◌, length, nat_lt, arith, filter_map, All, Option, Some, None, option_map, is_some, refl, sym, ap, ◌∙◌, subst}
use Rattle.std.specs.List.{list_any}
use Rattle.std.proofs.lemmas.Bool.{cases_Bool, and_parts, and_from, true≢false, lt-ltb, or_right}
use Rattle.opfamily.specs.pg_value_operators_Family.{Family}
use Rattle.opfamily.specs.pg_value_operators_Op.{Op}
use Rattle.opfamily.specs.pg_value_value_SqlType.{SqlType}
use Rattle.opfamily.specs.pg_value_value_Value.{Value}
use Rattle.opfamily.specs.pg_value_value_Value_TheVariants.{Null, Int, Bool as Flag, Text as String}
use Rattle.opfamily.specs.pg_value_Truths.{is_true}
use Rattle.pg_expr.specs.declared.operand.ColRef.{ColRef}
use Rattle.pg_expr.specs.declared.operand.Operand.{Operand}
use Rattle.pg_expr.specs.declared.operand.Operand.TheVariants.{Col, Lit}
use Rattle.pg_expr.specs.Cond.{Cond, compare}
use Rattle.pg_expr.specs.Columns.{passes_column, each_column}
use Rattle.pg_expr.specs.Truths.{value_of, truth_at}
use Rattle.pg_expr.specs.Typed.{IsTyped}
use Rattle.eq_classes.specs.Equality.{Equality, equal_in, equality_in, is_column, are_equal, is_other, as_clause}
use Rattle.opfamily.specs.Answers.{is_family}
use Rattle.eq_classes.specs.Classes.{Premises, conjunct, Class, has_member, is_in, left_of, ordered_by, mentions, literal_of, literal_in, literals, distinct, IsClass, AreClasses}
use Rattle.eq_classes.specs.Clauses.{Set, by_conjunct, Clause, clause, conjunct_clauses, has_constant, class_clauses, clauses_from, clause_list}
use Rattle.eq_classes.specs.Parts.{has_column, is_inside, is_all}
use Rattle.eq_classes.specs.work.Holding.{hold, Fits}
use Rattle.eq_classes.proofs.ListLemmas.{IsIn, in_left, filter_in, filter_map_in, contains_from_in, all_at, any_at}
use Rattle.eq_classes.proofs.EqualLemmas.{order_self, equal_sym, equal_trans, family_is, family_self}
use Rattle.eq_classes.proofs.HoldLemmas.{hold_at, hold-append}
use Rattle.eq_classes.proofs.ClassHoldLemmas.{IsSound, column_self}
use Rattle.eq_classes.proofs.ClassLemmas.{Fixed}
use Rattle.eq_classes.proofs.ClasswiseLemmas.{Says, says, said}
use Rattle.eq_classes.proofs.SplitLemmas.{of_classes}
use Rattle.eq_classes.proofs.SideLemmas.{equality_is}
use Rattle.eq_classes.proofs.SoundLemmas.{member_in, in_member, distinct_in, literal_stands, is_class, class_sound}
use Rattle.eq_classes.proofs.ChainLemmas.{as_truth, as_inside, conjunct_truth, linked_equal}

-- an equal literal written first stands for each
pub distinct_equal : (f : Family) (vs : List Value) (v : Value) → IsIn v vs → are_equal f v v ≡ true → (w : Value) × IsIn w (distinct f vs) × (are_equal f w v ≡ true)
distinct_equal f [] v h e = absurd h
distinct_equal f (z ∷ zs) v (inl is) e = (z, inl refl, subst (λ (u : Value). are_equal f u v ≡ true) is e)
distinct_equal f (z ∷ zs) v (inr h) e =
    let w = distinct_equal f zs v h e in
    ⊎_elim
    (λ (t : are_equal f z w.0 ≡ true). (z, inl refl, equal_trans f z w.0 v t w.2))
    (λ (t : are_equal f z w.0 ≡ false). (w.0, inr (filter_in (λ u. not (are_equal f z u)) (distinct f zs) w.0 w.1 (ap not t)), w.2))
    (cases_Bool (are_equal f z w.0))

pub literal_self : (f : Family) (c : ColRef) (v : Value) → is_other c (Lit v) ≡ true → are_equal f v v ≡ true
literal_self f c Null e = absurd (true≢false (sym e))
literal_self f c (Int x) e = order_self f (Int x)
literal_self f c (Flag x) e = order_self f (Flag x)
literal_self f c (String x) e = order_self f (String x)

literal_when : (c : Class) (e : Equality) (v : Value) → is_in c (left_of e) ≡ true → e.right ≡ Lit v → literal_in c (Some e) ≡ Some v
literal_when c e v t right = rw t (ap literal_of right)

has_some : (vs : List Value) (v : Value) → IsIn v vs → nat_lt 0 (length vs) ≡ true
has_some [] v h = absurd h
has_some (z ∷ zs) v h = lt-ltb 0 (suc (length zs)) (omega arith)

pub some_in : (vs : List Value) → nat_lt 0 (length vs) ≡ true → (v : Value) × IsIn v vs
some_in [] h = absurd (true≢false (sym h))
some_in (z ∷ zs) h = (z, inl refl)

not_other : (c d : ColRef) → is_other c (Col d) ≡ true → is_column c d ≡ false
not_other c d h = ⊎_elim (λ (t : is_column c d ≡ true). absurd (true≢false (sym h ∙ ap not t))) (λ (t : is_column c d ≡ false). t) (cases_Bool (is_column c d))

equality_made : (e : Equality) (o : Operand) (f : Family) → e.right ≡ o → f ≡ e.family → e ≡ equal_in e.left o f
equality_made e o f right family = ap (λ (p : Operand). equal_in e.left p e.family) right ∙ ap (equal_in e.left o) (sym family)

own_in : (type_of : ColRef → SqlType) (m : ℕ) (ks : List Cond) (k : Cond) → IsIn k ks → equality_in type_of k ≡ None → (n : ℕ) × IsIn (clause (as_clause type_of k) (by_conjunct n)) (conjunct_clauses type_of m ks)
own_in type_of m [] k h e = absurd h
own_in type_of m (z ∷ zs) k (inl is) e =
    let t : is_some (equality_in type_of z) ≡ false = ap (λ (u : Cond). is_some (equality_in type_of u)) (sym is) ∙ ap is_some e in
    (m, rw t (inl (ap (λ (u : Cond). clause (as_clause type_of u) (by_conjunct m)) is)))
own_in type_of m (z ∷ zs) k (inr h) e =
    let w = own_in type_of (suc m) zs k h e in
    ⊎_elim
    (λ (t : is_some (equality_in type_of z) ≡ true). (w.0, rw t w.1))
    (λ (t : is_some (equality_in type_of z) ≡ false). (w.0, rw t (inr w.1)))
    (cases_Bool (is_some (equality_in type_of z)))

pub class_part : (b : ColRef → Value) (chosen : Clause → Bool) (n : ℕ) (cs : List Class) (c : Class) → IsIn c cs → hold b chosen (clauses_from n cs) ≡ true → (m : ℕ) × (hold b chosen (class_clauses m c) ≡ true)
class_part b chosen n [] c h e = absurd h
class_part b chosen n (d ∷ ds) c h e =
    let parts = and_parts (hold b chosen (class_clauses n d)) (hold b chosen (clauses_from (suc n) ds)) (sym (hold-append b chosen (class_clauses n d) (clauses_from (suc n) ds)) ∙ e) in
    ⊎_elim
    (λ (is : c ≡ d). (n, subst (λ (u : Class). hold b chosen (class_clauses n u) ≡ true) (sym is) parts.0))
    (λ (later : IsIn c ds). class_part b chosen (suc n) ds c later parts.1)
    h

module _ (g : Premises) (classes : List Class) (are : AreClasses g classes) (b : ColRef → Value) (typed : All (IsTyped g.type_of) g.conjuncts) (fits : Fits g.type_of b) where
  abbrev table : List Clause
  table = clause_list g.type_of g.conjuncts classes

  sound : (c : Class) → IsIn c classes → IsSound b c
  sound c i = class_sound g b typed fits classes are c i

  own : (c : Class) → IsIn c classes → IsClass g c
  own c i = is_class g typed classes are c i

  written_at : (c : Class) (k : Cond) (e : Equality) (v : Value) → equality_in g.type_of k ≡ Some e → c.family ≡ e.family → IsIn e.left c.members → e.right ≡ Lit v → literal_in c (equality_in g.type_of k) ≡ Some v
  written_at c k e v h family il right =
      let t : is_in c (left_of e) ≡ true = and_from _ _ (ap (is_family c.family) (sym family) ∙ family_self c.family) (in_member c e.left il) in
      ap (literal_in c) h ∙ literal_when c e v t right

  module _ (set : Set) (h : hold b (is_all set) table ≡ true) where
    halves : (hold b (is_all set) (conjunct_clauses g.type_of 1 g.conjuncts) ≡ true) × (hold b (is_all set) (clauses_from 0 classes) ≡ true)
    halves = and_parts (hold b (is_all set) (conjunct_clauses g.type_of 1 g.conjuncts)) (hold b (is_all set) (clauses_from 0 classes)) (sym (hold-append b (is_all set) (conjunct_clauses g.type_of 1 g.conjuncts) (clauses_from 0 classes)) ∙ h)

    said_by : (c : Class) → IsIn c classes → Says b c set
    said_by c i = let w = class_part b (is_all set) 0 classes c i halves.1 in says b w.0 c (sound c i) set w.1

    -- a column that equals a literal
    literal_side : (c : Class) (i : IsIn c classes) (k : Cond) (e : Equality) (v : Value) → IsIn k g.conjuncts → equality_in g.type_of k ≡ Some e → c.family ≡ e.family → IsIn e.left c.members → e.right ≡ Lit v
        → is_other e.left e.right ≡ true → set (e.left).rel.0 ≡ true → are_equal c.family (b e.left) v ≡ true
    literal_side c i k e v ik h family il right other inside =
        let written : IsIn v (literals g c) = filter_map_in (λ j. literal_in c (equality_in g.type_of j)) g.conjuncts k v ik (written_at c k e v h family il right) in
        let w = distinct_equal c.family (literals g c) v written (literal_self c.family e.left v (subst (λ (o : Operand). is_other e.left o ≡ true) right other)) in
        let iw : IsIn w.0 c.constants = subst (λ (vs : List Value). IsIn w.0 vs) (sym (own c i).constants) w.1 in
        equal_trans c.family (b e.left) w.0 v ((said_by c i).fixed (has_some c.constants w.0 iw) e.left w.0 il iw inside) w.2

    -- two columns of a class
    column_side : (c : Class) (i : IsIn c classes) (x y : ColRef) → IsIn x c.members → IsIn y c.members → is_column x y ≡ false → set x.rel.0 ≡ true → set y.rel.0 ≡ true → are_equal c.family (b x) (b y) ≡ true
    column_side c i x y ix iy differ sx sy = ⊎_elim
        (λ (t : has_constant c ≡ true).
        let w = some_in c.constants t in
        let fixed : Fixed b c set = (said_by c i).fixed t in
        equal_trans c.family (b x) w.0 (b y) (fixed x w.0 ix w.1 sx) (equal_sym c.family (b y) w.0 (fixed y w.0 iy w.1 sy)))
        (λ (t : has_constant c ≡ false). (said_by c i).agree t x y ix iy sx sy differ)
        (cases_Bool (has_constant c))

    by_side : (c : Class) (i : IsIn c classes) (k : Cond) (e : Equality) → IsIn k g.conjuncts → equality_in g.type_of k ≡ Some e → c.family ≡ e.family → IsIn e.left c.members → has_member c e.left ≡ true
        → (op : Op) → is_other e.left e.right ≡ true → is_inside set (compare op (Col e.left) e.right) ≡ true → (o : Operand) → e.right ≡ o → are_equal c.family (b e.left) (value_of b e.right) ≡ true
    by_side c i k e ik h family il has op other sides (Lit v) right =
        let inside = and_parts (each_column (λ x. set x.rel.0) (compare op (Col e.left) e.right)) (has_column (compare op (Col e.left) e.right) || set 0) sides in
        let at = and_parts (set (e.left).rel.0) (passes_column (λ x. set x.rel.0) e.right) inside.0 in
        subst (λ (o : Operand). are_equal c.family (b e.left) (value_of b o) ≡ true) (sym right) (literal_side c i k e v ik h family il right other at.0)
    by_side c i k e ik h family il has op other sides (Col d) right =
        let inside = and_parts (each_column (λ x. set x.rel.0) (compare op (Col e.left) e.right)) (has_column (compare op (Col e.left) e.right) || set 0) sides in
        let at = and_parts (set (e.left).rel.0) (passes_column (λ x. set x.rel.0) e.right) inside.0 in
        let sd : set d.rel.0 ≡ true = subst (λ (o : Operand). passes_column (λ x. set x.rel.0) o ≡ true) right at.1 in
        let is : equality_in g.type_of k ≡ Some (equal_in e.left (Col d) c.family) = h ∙ ap Some (equality_made e (Col d) c.family right family) in
        let id : IsIn d c.members = member_in c d (((own c i).joined e.left d has).1 (conjunct k e.left (Col d) (contains_from_in g.conjuncts k ik) is)) in
        let differ : is_column e.left d ≡ false = not_other e.left d (subst (λ (o : Operand). is_other e.left o ≡ true) right other) in
        subst (λ (o : Operand). are_equal c.family (b e.left) (value_of b o) ≡ true) (sym right) (column_side c i e.left d il id differ at.0 sd)

    equality_holds : (k : Cond) (e : Equality) → IsIn k g.conjuncts → equality_in g.type_of k ≡ Some e → is_inside set k ≡ true → are_equal e.family (b e.left) (value_of b e.right) ≡ true
    equality_holds k e ik h inside =
        let q = equality_is g.type_of k e h in
        let named : IsIn (left_of e) (mentions g) = in_left (left_of e) (filter_map (λ j. option_map left_of (equality_in g.type_of j)) g.conjuncts) (filter_map (ordered_by g.type_of) g.order)
        (filter_map_in (λ j. option_map left_of (equality_in g.type_of j)) g.conjuncts k (left_of e) ik (ap (option_map left_of) h)) in
        let w = any_at (λ c. is_in c (left_of e)) classes (all_at (λ m. list_any (λ c. is_in c m) classes ≡ true) (mentions g) are.every (left_of e) named) in
        let c : Class = w.0 in
        let parts = and_parts (is_family c.family e.family) (has_member c e.left) w.2 in
        let family : c.family ≡ e.family = family_is c.family e.family parts.0 in
        let il : IsIn e.left c.members = member_in c e.left parts.1 in
        let sides : is_inside set (compare q.op (Col e.left) e.right) ≡ true = subst (λ (j : Cond). is_inside set j ≡ true) q.is inside in
        subst (λ (f : Family). are_equal f (b e.left) (value_of b e.right) ≡ true) family (by_side c w.1 k e ik h family il parts.1 q.op q.other sides e.right refl)

    by_kind : (k : Cond) → IsIn k g.conjuncts → is_inside set k ≡ true → (o : Option Equality) → equality_in g.type_of k ≡ o → is_true (truth_at b k) ≡ true
    by_kind k ik inside None e =
        let w = own_in g.type_of 1 g.conjuncts k ik e in
        sym (as_truth g.type_of b k) ∙ hold_at b (is_all set) (conjunct_clauses g.type_of 1 g.conjuncts) halves.0 (clause (as_clause g.type_of k) (by_conjunct w.0)) w.1 (as_inside g.type_of b set k inside)
    by_kind k ik inside (Some q) e = conjunct_truth g b typed fits k q ik e ∙ equality_holds k q ik e inside

    -- each conjunct inside the set is true
    pub conjunct_holds : (k : Cond) → IsIn k g.conjuncts → is_inside set k ≡ true → is_true (truth_at b k) ≡ true
    conjunct_holds k ik inside = by_kind k ik inside (equality_in g.type_of k) refl

  -- where all conjuncts are true, so are the clauses, inside any set
  module _ (true_at : (k : Cond) → IsIn k g.conjuncts → is_true (truth_at b k) ≡ true) (set : Set) where
    conjuncts_hold : (m : ℕ) (ks : List Cond) → ((k : Cond) → IsIn k ks → is_true (truth_at b k) ≡ true) → hold b (is_all set) (conjunct_clauses g.type_of m ks) ≡ true
    conjuncts_hold m [] each = refl
    conjuncts_hold m (k ∷ ks) each = ⊎_elim
        (λ (t : is_some (equality_in g.type_of k) ≡ true). rw t (conjuncts_hold (suc m) ks (λ j i. each j (inr i))))
        (λ (t : is_some (equality_in g.type_of k) ≡ false). rw t (and_from _ _ (or_right (not (is_inside set (as_clause g.type_of k))) (is_true (truth_at b (as_clause g.type_of k))) (as_truth g.type_of b k ∙ each k (inl refl))) (conjuncts_hold (suc m) ks (λ j i. each j (inr i)))))
        (cases_Bool (is_some (equality_in g.type_of k)))

    equal_members : (c : Class) (i : IsIn c classes) (x y : ColRef) → IsIn x c.members → IsIn y c.members → (x ≡ y) ⊎ (are_equal c.family (b x) (b y) ≡ true)
    equal_members c i x y ix iy = ⊎_elim
        (λ (e : Col x ≡ Col y). inl (cc))
        (λ (e : are_equal c.family (b x) (b y) ≡ true). inr e)
        (linked_equal g b typed fits true_at c.family (Col x) (Col y) (((own c i).joined x y (in_member c x ix)).0 (in_member c y iy)))

    class_says : (c : Class) → IsIn c classes → Says b c set
    class_says c i = record {
      fixed = λ e x v ix iv is.
          let q = literal_stands g c v (distinct_in c.family (literals g c) v (subst (λ (vs : List Value). IsIn v vs) (own c i).constants iv)) in
          let h : are_equal q.equality.family (b q.equality.left) (value_of b q.equality.right) ≡ true = sym (conjunct_truth g b typed fits q.cond q.equality q.given q.is) ∙ true_at q.cond q.given in
          let h' : are_equal c.family (b q.equality.left) v ≡ true = subst (λ (f : Family). are_equal f (b q.equality.left) v ≡ true) (sym q.family) (subst (λ (o : Operand). are_equal q.equality.family (b q.equality.left) (value_of b o) ≡ true) q.right h) in
          ⊎_elim
          (λ (same : x ≡ q.equality.left). subst (λ (u : ColRef). are_equal c.family (b u) v ≡ true) (sym same) h')
          (λ (eq : are_equal c.family (b x) (b q.equality.left) ≡ true). equal_trans c.family (b x) (b q.equality.left) v eq h')
          (equal_members c i x q.equality.left ix q.left);
      agree = λ e x y ix iy sx sy differ. ⊎_elim
          (λ (same : x ≡ y). absurd (true≢false (sym (column_self x) ∙ ap (is_column x) same ∙ differ)))
          (λ (eq : are_equal c.family (b x) (b y) ≡ true). eq)
          (equal_members c i x y ix iy);
    }

    pub clauses_hold : hold b (is_all set) table ≡ true
    clauses_hold =
        hold-append b (is_all set) (conjunct_clauses g.type_of 1 g.conjuncts) (clauses_from 0 classes)
        ∙ and_from _ _ (conjuncts_hold 1 g.conjuncts true_at)
        (of_classes (λ ks. hold b (is_all set) ks ≡ true) refl (λ ks ls p q. hold-append b (is_all set) ks ls ∙ and_from _ _ p q) 0 classes (λ m c i. said b m c (sound c i) set (class_says c i)))
