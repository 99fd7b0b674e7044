-- Few conjuncts make few clauses.
use Rattle.std.proofs.Common.{◌≡◌, ℕ, zero, suc, ◌+◌, ◌*◌, ◌<◌, ◌≤◌, Bool, true, false, not, cond, ◌&&◌, ◌||◌, ◌⊎◌, inl, inr, ⊎_elim, List, [], ◌∷◌, ◌++◌, length, map, filter, find, flat_map, nat_eq, is_some, Option, Some, None, refl, sym, ap, ◌∙◌, subst, arith}
use Rattle.std.specs.List.{list_any}
use Rattle.std.proofs.lemmas.Bool.{cases_Bool, cases_lt, and_parts, and_from, or_cases, or_left, or_right, true≢false, eq-eqb, lt-ltb, ltb-true}
use Rattle.std.proofs.lemmas.Nat.{mul-le}
use Rattle.opfamily.specs.pg_value_operators_Family.{Family}
use Rattle.opfamily.specs.pg_value_value_SqlType.{SqlType}
use Rattle.opfamily.specs.pg_value_value_Value.{Value}
use Rattle.pg_expr.specs.declared.operand.ColRef.{ColRef}
use Rattle.pg_expr.specs.declared.operand.Operand.{Operand}
use Rattle.pg_expr.specs.declared.operand.Operand.TheVariants.{Col, Lit}
use Rattle.pg_expr.specs.Cond.{Cond}
use Rattle.pg_expr.specs.Pushed.{is_lower}
use Rattle.eq_classes.specs.Equality.{Equality, equality_in, is_column, is_other, are_equal}
use Rattle.opfamily.specs.Answers.{is_family}
use Rattle.eq_classes.specs.Classes.{Premises, Linked, Class, has_member, Mention, mentions, first_mention, literals, distinct, IsClass, AreClasses}
use Rattle.eq_classes.specs.Clauses.{Clause, clause, by_class, one, first_in, is_same, is_first, equals, equals_constant, each_pair, conjunct_clauses, constant_clauses, inner_clause, inner_clauses, pair_clause, pair_clauses, has_constant, class_clauses, clauses_from, clause_list}
use Rattle.eq_classes.specs.Grouping.{operand_columns}
use Rattle.eq_classes.specs.work.Grouping.{Part, has_side, literals_in, started, united, touches, gathered, added, grouped}
use Rattle.eq_classes.proofs.ListLemmas.{IsIn, Before, earlier_in, later_in, in_filter, filter_in, before_filter, in_from_contains, all_at, pairs_at, any_from, any_at}
use Rattle.eq_classes.proofs.EqualLemmas.{column_is, equal_sym, equal_trans, equal_self, family_is, family_self}
use Rattle.eq_classes.proofs.ClassHoldLemmas.{same_is, column_self}
use Rattle.eq_classes.proofs.SoundLemmas.{IsLiteral, literal_stands, distinct_in, members_differ, member_in, in_member}
use Rattle.eq_classes.proofs.PartitionLemmas.{unite, any-append, untouched, touched, gathered_is, groups_of, are_partition, are_joined, one_group, closed, united_is}
use Rattle.eq_classes.proofs.BuiltLemmas.{alone}
use Rattle.eq_classes.proofs.SideLemmas.{equality_is}
use Rattle.eq_classes.proofs.WhereLemmas.{literal_self}
use Rattle.eq_classes.proofs.UniqueLemmas.{meeting}
use Rattle.eq_classes.proofs.CountLemmas.{count, count_most, count_append, count_shared, few_differ, few_below}

column_flips : (x y : ColRef) → is_column x y ≡ true → is_column y x ≡ true
column_flips x y h = ap (λ (z : ColRef). is_column z x) (sym (column_is x y h)) ∙ column_self x

column_follows : (x y z : ColRef) → is_column x y ≡ true → is_column y z ≡ true → is_column x z ≡ true
column_follows x y z p q = ap (λ (u : ColRef). is_column u z) (column_is x y p) ∙ q

-- how many columns and literals a group has, and how many of them differ
abbrev weight : Part → ℕ
weight p = length p.columns + length p.literals

abbrev kinds : Part → ℕ
kinds p = count is_column p.columns + count (are_equal p.family) p.literals

-- with each conjunct comes one that differs at most, and one more for the first
abbrev IsTree : Part → Type 0
IsTree p = kinds p + kinds p ≤ weight p + 2

abbrev weights : List Part → ℕ
weights [] = 0
weights (p ∷ ps) = weight p + weights ps

append_length : {A : Type 0} → (xs ys : List A) → length (xs ++ ys) ≡ length xs + length ys
append_length [] ys = omega arith
append_length (x ∷ xs) ys = let e = append_length xs ys in omega (arith, e)

weights-append : (ps qs : List Part) → weights (ps ++ qs) ≡ weights ps + weights qs
weights-append [] qs = omega arith
weights-append (p ∷ ps) qs = let e = weights-append ps qs in omega (arith, e)

weights-parts : (test : Part → Bool) (ps : List Part) → weights (filter test ps) + weights (filter (λ p. not (test p)) ps) ≡ weights ps
weights-parts test [] = refl
weights-parts test (p ∷ ps) =
    let e = weights-parts test ps in
    ⊎_elim
    (λ (t : test p ≡ true). rw t (omega (arith, e)))
    (λ (t : test p ≡ false). rw t (omega (arith, e)))
    (cases_Bool (test p))

started_columns : (l : ColRef) (r : Operand) → length (l ∷ operand_columns r) + length (literals_in r) ≡ 2
started_columns l (Col c) = refl
started_columns l (Lit v) = refl

started_weight : (f : Family) (l : ColRef) (r : Operand) → weight (started f l r) ≡ 2
started_weight f l r = started_columns l r

started_tree : (f : Family) (l : ColRef) (r : Operand) → IsTree (started f l r)
started_tree f l r =
    let a = count_most is_column (l ∷ operand_columns r) in
    let b = count_most (are_equal f) (literals_in r) in
    let e = started_columns l r in
    omega (arith, a, b, e)

united_weight : (j p : Part) → weight (united j p) ≡ weight j + weight p
united_weight j p =
    let a = append_length j.columns p.columns in
    let b = append_length j.literals p.literals in
    omega (arith, a, b)

-- two groups that share a side
united_kinds : (j p : Part) → j.family ≡ p.family → (o : Operand) → has_side j o ≡ true → has_side p o ≡ true → kinds (united j p) + 1 ≤ kinds j + kinds p
united_kinds j p fam (Col c) hj hp =
    let u = any_at (is_column c) j.columns hj in
    let k : list_any (is_column u.0) p.columns ≡ true = ap (λ (x : ColRef). list_any (is_column x) p.columns) (sym (column_is c u.0 u.2)) ∙ hp in
    let a = count_shared is_column column_flips column_follows j.columns p.columns u.0 u.1 k in
    let b = count_append (are_equal j.family) j.literals p.literals in
    let e : count (are_equal j.family) p.literals ≡ count (are_equal p.family) p.literals = ap (λ (f : Family). count (are_equal f) p.literals) fam in
    omega (arith, a, b, e)
united_kinds j p fam (Lit v) hj hp =
    let u = any_at (are_equal j.family v) j.literals hj in
    let w = any_at (are_equal p.family v) p.literals hp in
    let vw : are_equal j.family v w.0 ≡ true = ap (λ (f : Family). are_equal f v w.0) fam ∙ w.2 in
    let k : list_any (are_equal j.family u.0) p.literals ≡ true = any_from (are_equal j.family u.0) p.literals w.0 w.1 (equal_trans j.family u.0 v w.0 (equal_sym j.family v u.0 u.2) vw) in
    let a = count_shared (are_equal j.family) (equal_sym j.family) (equal_trans j.family) j.literals p.literals u.0 u.1 k in
    let b = count_append is_column j.columns p.columns in
    let e : count (are_equal j.family) p.literals ≡ count (are_equal p.family) p.literals = ap (λ (f : Family). count (are_equal f) p.literals) fam in
    omega (arith, a, b, e)

-- groups that share a side with one, each made one with it
module _ (l : ColRef) (r : Operand) where
  abbrev Shares : Part → Part → Type 0
  Shares j p = (j.family ≡ p.family) × ((has_side p (Col l) ≡ true) ⊎ (has_side p r ≡ true))

  unite_weight : (j : Part) (ps : List Part) → weight (unite j ps) ≡ weight j + weights ps
  unite_weight j [] = omega arith
  unite_weight j (p ∷ ps) =
      let a = unite_weight (united j p) ps in
      let b = united_weight j p in
      omega (arith, a, b)

  unite_tree : (j : Part) (ps : List Part) → has_side j (Col l) ≡ true → has_side j r ≡ true → IsTree j → ((p : Part) → IsIn p ps → IsTree p) → ((p : Part) → IsIn p ps → Shares j p) → IsTree (unite j ps)
  unite_tree j [] hl hr tree trees shares = tree
  unite_tree j (p ∷ ps) hl hr tree trees shares =
      let s = shares p (inl refl) in
      let fewer : kinds (united j p) + 1 ≤ kinds j + kinds p = ⊎_elim
      (λ (h : has_side p (Col l) ≡ true). united_kinds j p s.0 (Col l) hl h)
      (λ (h : has_side p r ≡ true). united_kinds j p s.0 r hr h)
      s.1 in
      let other = trees p (inl refl) in
      let e = united_weight j p in
      unite_tree (united j p) ps
      (united_is j p (Col l) s.0 ∙ or_left _ _ hl) (united_is j p r s.0 ∙ or_left _ _ hr)
      (omega (arith, fewer, tree, other, e))
      (λ q i. trees q (inr i)) (λ q i. shares q (inr i))

abbrev AreTrees : List Part → Type 0
AreTrees ps = (p : Part) → IsIn p ps → IsTree p

in_last : (ps : List Part) (q p : Part) → IsIn p (ps ++ q ∷ []) → IsIn p ps ⊎ (p ≡ q)
in_last [] q p (inl e) = inr e
in_last [] q p (inr h) = absurd h
in_last (z ∷ ps) q p (inl e) = inl (inl e)
in_last (z ∷ ps) q p (inr h) = ⊎_elim (λ (i : IsIn p ps). inl (inr i)) (λ (e : p ≡ q). inr e) (in_last ps q p h)

module _ (f : Family) (l : ColRef) (r : Operand) (right : has_side (started f l r) r ≡ true) where
  abbrev whole : List Part → Part
  whole ps = unite (started f l r) (touched f l r ps)

  gathered_trees : (ps : List Part) → AreTrees ps → AreTrees (gathered f l r ps [] (started f l r))
  gathered_trees ps trees = subst AreTrees (sym (gathered_is f l r ps [] (started f l r))) (λ p i. ⊎_elim
      (λ (h : IsIn p (untouched f l r ps)). trees p (in_filter (λ q. not (touches f l r q)) ps p h).0)
      (λ (e : p ≡ whole ps). subst IsTree (sym e) (unite_tree l r (started f l r) (touched f l r ps) (or_left (is_column l l) (list_any (is_column l) (operand_columns r)) (column_self l)) right (started_tree f l r)
      (λ q j. trees q (in_filter (touches f l r) ps q j).0)
      (λ q j.
      let t = in_filter (touches f l r) ps q j in
      let parts = and_parts (is_family f q.family) (has_side q (Col l) || has_side q r) t.1 in
      (family_is f q.family parts.0, or_cases (has_side q (Col l)) (has_side q r) parts.1))))
      (in_last (untouched f l r ps) (whole ps) p i))

  gathered_weights : (ps : List Part) → weights (gathered f l r ps [] (started f l r)) ≡ weights ps + 2
  gathered_weights ps =
      let a = weights-append (untouched f l r ps) (whole ps ∷ []) in
      let b = unite_weight l r (started f l r) (touched f l r ps) in
      let d = weights-parts (touches f l r) ps in
      let e = started_weight f l r in
      ap weights (gathered_is f l r ps [] (started f l r)) ∙ (omega (arith, a, b, d, e))

module _ (g : Premises) where
  abbrev eqs : List Cond → ℕ
  eqs [] = 0
  eqs (k ∷ ks) = cond (is_some (equality_in g.type_of k)) (suc (eqs ks)) (eqs ks)

  right_in : (f : Family) (l : ColRef) (r : Operand) → is_other l r ≡ true → has_side (started f l r) r ≡ true
  right_in f l (Col d) other = or_right (is_column d l) (is_column d d || false) (or_left (is_column d d) false (column_self d))
  right_in f l (Lit v) other = or_left (are_equal f v v) false (literal_self f l v other)

  added_trees : (k : Cond) (o : Option Equality) → equality_in g.type_of k ≡ o → (ps : List Part) → AreTrees ps → AreTrees (added o ps)
  added_trees k None e ps trees = trees
  added_trees k (Some q) e ps trees = gathered_trees q.family q.left q.right (right_in q.family q.left q.right (equality_is g.type_of k q e).other) ps trees

  added_weights : (k : Cond) (o : Option Equality) → equality_in g.type_of k ≡ o → (ps : List Part) → weights (added o ps) ≡ weights ps + cond (is_some o) 2 0
  added_weights k None e ps = omega arith
  added_weights k (Some q) e ps = gathered_weights q.family q.left q.right (right_in q.family q.left q.right (equality_is g.type_of k q e).other) ps

  grouped_trees : (ks : List Cond) (ps : List Part) → AreTrees ps → AreTrees (grouped g.type_of ks ps)
  grouped_trees [] ps trees = trees
  grouped_trees (k ∷ ks) ps trees = grouped_trees ks (added (equality_in g.type_of k) ps) (added_trees k (equality_in g.type_of k) refl ps trees)

  twice_more : (b : Bool) (n a w z : ℕ) → w ≡ a + cond b 2 0 → z ≡ w + (n + n) → z ≡ a + (cond b (suc n) n + cond b (suc n) n)
  twice_more true n a w z p q = omega (arith, p, q)
  twice_more false n a w z p q = omega (arith, p, q)

  grouped_weights : (ks : List Cond) (ps : List Part) → weights (grouped g.type_of ks ps) ≡ weights ps + (eqs ks + eqs ks)
  grouped_weights [] ps = omega arith
  grouped_weights (k ∷ ks) ps = twice_more (is_some (equality_in g.type_of k)) (eqs ks) (weights ps) (weights (added (equality_in g.type_of k) ps)) (weights (grouped g.type_of ks (added (equality_in g.type_of k) ps)))
      (added_weights k (equality_in g.type_of k) refl ps) (grouped_weights ks (added (equality_in g.type_of k) ps))

  conjuncts_count : (n : ℕ) (ks : List Cond) → length (conjunct_clauses g.type_of n ks) + eqs ks ≡ length ks
  conjuncts_count n [] = refl
  conjuncts_count n (k ∷ ks) =
      let e = conjuncts_count (suc n) ks in
      ⊎_elim
      (λ (t : is_some (equality_in g.type_of k) ≡ true). rw t (omega (arith, e)))
      (λ (t : is_some (equality_in g.type_of k) ≡ false). rw t (omega (arith, e)))
      (cases_Bool (is_some (equality_in g.type_of k)))

-- a group with a column of a class of its family
abbrev serves : Class → Part → Bool
serves c p = is_family c.family p.family && list_any (has_member c) p.columns

none_in : {A : Type 0} → (xs : List A) → ((x : A) → IsIn x xs → ⊥) → length xs ≡ 0
none_in [] h = refl
none_in (x ∷ xs) h = absurd (h x (inl refl))

one_at_most : {A : Type 0} → (xs : List A) → ((x y : A) → Before x y xs → ⊥) → length xs ≤ 1
one_at_most [] h = omega arith
one_at_most (x ∷ []) h = omega arith
one_at_most (x ∷ y ∷ xs) h = absurd (h x y (inl (refl, inl refl)))

distinct_apart : (f : Family) (vs : List Value) (a b : Value) → Before a b (distinct f vs) → are_equal f a b ≡ true → ⊥
distinct_apart f [] a b h e = h
distinct_apart f (v ∷ vs) a b (inl h) e =
    let w = in_filter (λ u. not (are_equal f v u)) (distinct f vs) b h.1 in
    true≢false (sym w.1 ∙ ap not (ap (λ (u : Value). are_equal f u b) (sym h.0) ∙ e))
distinct_apart f (v ∷ vs) a b (inr h) e = distinct_apart f vs a b (before_filter (λ u. not (are_equal f v u)) (distinct f vs) a b h) e

module _ (g : Premises) (classes : List Class) (are : AreClasses g classes) where
  class_is : (c : Class) → IsIn c classes → IsClass g c
  class_is c i = all_at (IsClass g) classes are.each c i

  differ : (c : Class) → IsIn c classes → (x y : ColRef) → Before x y c.members → is_column x y ≡ true → ⊥
  differ c i x y b h = true≢false (sym h ∙ members_differ c (class_is c i).rising x y b)

  -- a group that shares a column with a class holds all of it
  module _ (c : Class) (ic : IsIn c classes) (p : Part) (ip : IsIn p (groups_of g)) (fam : c.family ≡ p.family) (x : ColRef) (ix : IsIn x p.columns) (hx : has_member c x ≡ true) where
    member_there : (y : ColRef) → IsIn y c.members → has_side p (Col y) ≡ true
    member_there y iy = (closed g p ip c.family (sym fam) (Col x) (Col y) (((class_is c ic).joined x y hx).0 (in_member c y iy))).0 (any_from (is_column x) p.columns x ix (column_self x))

    constant_there : (v : Value) → IsIn v c.constants → has_side p (Lit v) ≡ true
    constant_there v iv =
        let q = literal_stands g c v (distinct_in c.family (literals g c) v (subst (λ (l : List Value). IsIn v l) (class_is c ic).constants iv)) in
        let j = are_joined g q.cond q.given q.equality q.is in
        let same : j.part ≡ p = one_group g j.part p j.inside ip (j.family ∙ sym q.family ∙ fam) (Col q.equality.left) j.left (member_there q.equality.left q.left) in
        ap (λ (a : Part). has_side a (Lit v)) (sym same) ∙ ap (has_side j.part) (sym q.right) ∙ j.right

    class_kinds : length c.members + length c.constants ≤ kinds p
    class_kinds =
        let a = few_differ is_column column_flips column_follows p.columns c.members (differ c ic) member_there in
        let b = few_differ (are_equal p.family) (equal_sym p.family) (equal_trans p.family) p.literals c.constants
        (λ u v k e. distinct_apart p.family (literals g c) u v (subst (λ (l : List Value). Before u v l) ((class_is c ic).constants ∙ ap (λ (f : Family). distinct f (literals g c)) fam) k) e)
        constant_there in
        omega (arith, a, b)

  -- a class that shares a column with no group is one column
  module _ (c : Class) (ic : IsIn c classes) (none : (p : Part) → IsIn p (groups_of g) → serves c p ≡ true → ⊥) where
    none_has : (x : ColRef) → has_member c x ≡ true → (p : Part) → IsIn p (groups_of g) → p.family ≡ c.family → has_side p (Col x) ≡ true → ⊥
    none_has x hx p ip fam h =
        let u = any_at (is_column x) p.columns h in
        none p ip (and_from _ _ (ap (is_family c.family) fam ∙ family_self c.family) (any_from (has_member c) p.columns u.0 u.1 (ap (has_member c) (sym (column_is x u.0 u.2)) ∙ hx)))

    no_constant : (v : Value) → IsIn v c.constants → ⊥
    no_constant v iv =
        let q = literal_stands g c v (distinct_in c.family (literals g c) v (subst (λ (l : List Value). IsIn v l) (class_is c ic).constants iv)) in
        let j = are_joined g q.cond q.given q.equality q.is in
        none_has q.equality.left (in_member c q.equality.left q.left) j.part j.inside (j.family ∙ sym q.family) j.left

    no_pair : (x y : ColRef) → Before x y c.members → ⊥
    no_pair x y b =
        let hx = in_member c x (earlier_in x y c.members b) in
        let l = ((class_is c ic).joined x y hx).0 (in_member c y (later_in x y c.members b)) in
        let alike : Col y ≡ Col x = (alone g c.family x (none_has x hx) (Col x) (Col y) l).0 refl in
        let same : y ≡ x = cc in
        differ c ic x y b (ap (is_column x) same ∙ column_self x)

    class_alone : length c.members + length c.constants ≤ 1
    class_alone =
        let a = one_at_most c.members no_pair in
        let b = none_in c.constants no_constant in
        omega (arith, a, b)

  -- what serves a class weighs enough
  served : (c : Class) → IsIn c classes → (length c.members + length c.constants) + (length c.members + length c.constants) ≤ weights (filter (serves c) (groups_of g)) + 2
  served c ic = by (filter (serves c) (groups_of g)) refl
    where
      by : (qs : List Part) → filter (serves c) (groups_of g) ≡ qs → (length c.members + length c.constants) + (length c.members + length c.constants) ≤ weights qs + 2
      by [] e =
          let h = class_alone c ic (λ p ip s. subst (λ (l : List Part). IsIn p l) e (filter_in (serves c) (groups_of g) p ip s)) in
          omega (arith, h)
      by (p ∷ qs) e =
          let i = in_filter (serves c) (groups_of g) p (subst (λ (l : List Part). IsIn p l) (sym e) (inl refl)) in
          let parts = and_parts (is_family c.family p.family) (list_any (has_member c) p.columns) i.1 in
          let u = any_at (has_member c) p.columns parts.1 in
          let h = class_kinds c ic p i.0 (family_is c.family p.family parts.0) u.0 u.1 u.2 in
          let tree = grouped_trees g g.conjuncts [] (λ q none. absurd none) p i.0 in
          omega (arith, h, tree)

  -- no group serves two classes
  serves_one : (c d : Class) → Before c d classes → (p : Part) → IsIn p (groups_of g) → serves c p ≡ true → serves d p ≡ true → ⊥
  serves_one c d b p ip s t =
      let sc = and_parts (is_family c.family p.family) (list_any (has_member c) p.columns) s in
      let sd = and_parts (is_family d.family p.family) (list_any (has_member d) p.columns) t in
      let u = any_at (has_member c) p.columns sc.1 in
      let w = any_at (has_member d) p.columns sd.1 in
      let fam : c.family ≡ d.family = family_is c.family p.family sc.0 ∙ sym (family_is d.family p.family sd.0) in
      let ic = earlier_in c d classes b in
      let id = later_in c d classes b in
      let m = member_there c ic p ip (family_is c.family p.family sc.0) u.0 u.1 u.2 in
      let l : Linked g p.family (Col u.0) (Col w.0) = (are_partition g).linked p ip (Col u.0) (Col w.0) (any_from (is_column u.0) p.columns u.0 u.1 (column_self u.0)) (any_from (is_column w.0) p.columns w.0 w.1 (column_self w.0)) in
      let h : has_member c w.0 ≡ true = ((class_is c ic).joined u.0 w.0 u.2).1 (subst (λ (f : Family). Linked g f (Col u.0) (Col w.0)) (sym (family_is c.family p.family sc.0)) l) in
      let same : c ≡ d = meeting g c d (class_is c ic) (class_is d id) fam w.0 h w.2 in
      let lt = pairs_at (λ a e. first_mention g a < first_mention g e) classes are.numbered c d b in
      let e : first_mention g c ≡ first_mention g d = ap (first_mention g) same in
      omega (arith, lt, e)

length_map : {A B : Type 0} → (f : A → B) (xs : List A) → length (map f xs) ≡ length xs
length_map f [] = refl
length_map f (x ∷ xs) = ap suc (length_map f xs)

abbrev times : ℕ → ℕ → ℕ
times zero k = 0
times (suc n) k = k + times n k

-- the clauses of one class
rows_few : {A B C : Type 0} → (f : A → B → C) (vs : List B) (xs : List A) → length vs ≤ 16 → length (flat_map (λ x. map (f x) vs) xs) ≤ 16 * length xs
rows_few f vs [] few = omega arith
rows_few f vs (x ∷ xs) few =
    let a = append_length (map (f x) vs) (flat_map (λ y. map (f y) vs) xs) in
    let b = length_map (f x) vs in
    let h = rows_few f vs xs few in
    omega (arith, a, b, h, few)

rows_product : {A B C : Type 0} → (f : A → B → C) (vs : List B) (xs : List A) → length (flat_map (λ x. map (f x) vs) xs) ≡ times (length xs) (length vs)
rows_product f vs [] = refl
rows_product f vs (x ∷ xs) =
    let a = append_length (map (f x) vs) (flat_map (λ y. map (f y) vs) xs) in
    let b = length_map (f x) vs in
    let h = rows_product f vs xs in
    omega (arith, a, b, h)

times_few : (n m k : ℕ) → n ≤ m → times n k ≤ times m k
times_few zero zero k lt = omega arith
times_few zero (suc m) k lt = omega arith
times_few (suc n) zero k lt = absurd (omega (arith, lt))
times_few (suc n) (suc m) k lt = let h = times_few n m k (omega (arith, lt)) in omega (arith, h)

times_sixteen : (k : ℕ) → times 16 k ≤ 16 * k
times_sixteen k = omega arith

-- each member that is not the first of its relation has one clause
one_inner : (n : ℕ) (c : Class) (x : ColRef) (o : Option ColRef) → length (inner_clause n c x o) + cond (is_same x o) 1 0 ≤ 1
one_inner n c x None = omega arith
one_inner n c x (Some y) = ⊎_elim
    (λ (t : is_column x y ≡ true). rw t (omega arith))
    (λ (t : is_column x y ≡ false). rw t (omega arith))
    (cases_Bool (is_column x y))

inner_few : (n : ℕ) (c : Class) (xs : List ColRef) → length (flat_map (λ x. inner_clause n c x (first_in c (one x.rel.0))) xs) + length (filter (is_first c) xs) ≤ length xs
inner_few n c [] = omega arith
inner_few n c (x ∷ xs) =
    let a = append_length (inner_clause n c x (first_in c (one x.rel.0))) (flat_map (λ y. inner_clause n c y (first_in c (one y.rel.0))) xs) in
    let b = one_inner n c x (first_in c (one x.rel.0)) in
    let h = inner_few n c xs in
    ⊎_elim
    (λ (t : is_first c x ≡ true). let b' : length (inner_clause n c x (first_in c (one x.rel.0))) + 1 ≤ 1 = rw t at b in rw t (omega (arith, a, b', h)))
    (λ (t : is_first c x ≡ false). let b' : length (inner_clause n c x (first_in c (one x.rel.0))) + 0 ≤ 1 = rw t at b in rw t (omega (arith, a, b', h)))
    (cases_Bool (is_first c x))

pairs_few : {A B : Type 0} → (f : A → A → B) (x : A) (xs : List A) → length xs ≤ 15 → length (each_pair f (x ∷ xs)) ≤ 15 * length xs
pairs_few f x [] few = omega arith
pairs_few f x (y ∷ ys) few =
    let a = append_length (map (f x) (y ∷ ys)) (each_pair f (y ∷ ys)) in
    let b = length_map (f x) (y ∷ ys) in
    let h = pairs_few f y ys (omega (arith, few)) in
    omega (arith, a, b, h, few)

module _ (n : ℕ) (c : Class) (rising : (x y : ColRef) → Before x y c.members → is_column x y ≡ true → ⊥) (near : (x : ColRef) → IsIn x c.members → x.rel.0 < 16) where
  abbrev firsts : List ColRef
  firsts = filter (is_first c) c.members

  same_some : (x y : ColRef) → Some x ≡ Some y → x ≡ y
  same_some x y h = cc

  few_firsts : length firsts ≤ 16
  few_firsts = few_below (λ x. x.rel.0) 16 firsts (λ x y b e.
      let fx = in_filter (is_first c) c.members x (earlier_in x y firsts b) in
      let fy = in_filter (is_first c) c.members y (later_in x y firsts b) in
      let same : x ≡ y = same_some x y (sym (same_is x (first_in c (one x.rel.0)) fx.1) ∙ ap (λ (r : ℕ). first_in c (one r)) e ∙ same_is y (first_in c (one y.rel.0)) fy.1) in
      rising x y (before_filter (is_first c) c.members x y b) (ap (is_column x) (sym same) ∙ column_self x))
      (λ x i. near x (in_filter (is_first c) c.members x i).0)

  head_first : (x : ColRef) (xs : List ColRef) → c.members ≡ x ∷ xs → is_first c x ≡ true
  head_first x xs e =
      let own : one x.rel.0 x.rel.0 ≡ true = eq-eqb x.rel.0 x.rel.0 refl in
      let found : find (λ y. one x.rel.0 y.rel.0) (x ∷ xs) ≡ Some x = rw own refl in
      let there : first_in c (one x.rel.0) ≡ Some x = ap (λ (l : List ColRef). find (λ y. one x.rel.0 y.rel.0) l) e ∙ found in
      ap (is_same x) there ∙ column_self x

  -- without a constant
  agree_few : (w : ℕ) → length c.members + length c.members ≤ w + 2 → length (inner_clauses n c ++ pair_clauses n c) ≤ 8 * w
  agree_few w h = by c.members refl firsts refl
    where
      by : (ms : List ColRef) → c.members ≡ ms → (fs : List ColRef) → firsts ≡ fs → length (inner_clauses n c ++ pair_clauses n c) ≤ 8 * w
      by [] e fs e' =
          let i = inner_few n c c.members in
          let p : length (pair_clauses n c) ≡ 0 = ap (λ (l : List ColRef). length (each_pair (pair_clause n c) (filter (is_first c) l))) e in
          let z : length c.members ≡ 0 = ap length e in
          omega (arith, append_length (inner_clauses n c) (pair_clauses n c), i, p, z)
      by (x ∷ ms) e [] e' = absurd (subst (λ (l : List ColRef). IsIn x l) e' (filter_in (is_first c) c.members x (subst (λ (l : List ColRef). IsIn x l) (sym e) (inl refl)) (head_first x ms e)))
      by (x ∷ ms) e (y ∷ ys) e' =
          let i = inner_few n c c.members in
          let few : length firsts ≤ 16 = few_firsts in
          let z : length firsts ≡ suc (length ys) = ap length e' in
          let q = pairs_few (pair_clause n c) y ys (omega (arith, few, z)) in
          let p : length (pair_clauses n c) ≡ length (each_pair (pair_clause n c) (y ∷ ys)) = ap (λ (l : List ColRef). length (each_pair (pair_clause n c) l)) e' in
          omega (arith, append_length (inner_clauses n c) (pair_clauses n c), i, z, q, p, h)

  -- with constants
  fixed_few : (w : ℕ) → w ≤ 64 → has_constant c ≡ true → (length c.members + length c.constants) + (length c.members + length c.constants) ≤ w + 2 → length (constant_clauses n c) ≤ 8 * w
  fixed_few w most t h =
      let some : 0 < length c.constants = ltb-true 0 (length c.constants) t in
      ⊎_elim
      (λ (few : length c.constants < 17).
      let r = rows_few (λ x v. clause (equals_constant c x v) (by_class n c)) c.constants c.members (omega (arith, few)) in
      omega (arith, r, h, some))
      (λ (many : 17 ≤ length c.constants).
      let r = rows_product (λ x v. clause (equals_constant c x v) (by_class n c)) c.constants c.members in
      let q = times_few (length c.members) 16 (length c.constants) (omega (arith, many, h, most)) in
      let v = times_sixteen (length c.constants) in
      by_members c.members refl r q v h)
      (cases_lt (length c.constants) 17)
    where
      by_members : (ms : List ColRef) → c.members ≡ ms → length (constant_clauses n c) ≡ times (length c.members) (length c.constants) → times (length c.members) (length c.constants) ≤ times 16 (length c.constants)
          → times 16 (length c.constants) ≤ 16 * length c.constants → (length c.members + length c.constants) + (length c.members + length c.constants) ≤ w + 2 → length (constant_clauses n c) ≤ 8 * w
      by_members [] e r q v h =
          let z : times (length c.members) (length c.constants) ≡ 0 = ap (λ (l : List ColRef). times (length l) (length c.constants)) e in
          omega (arith, r, z)
      by_members (x ∷ ms) e r q v h =
          let z : length c.members ≡ suc (length ms) = ap length e in
          omega (arith, r, q, v, h, z)

  class_few : (w : ℕ) → w ≤ 64 → (length c.members + length c.constants) + (length c.members + length c.constants) ≤ w + 2 → length (class_clauses n c) ≤ 8 * w
  class_few w most h = ⊎_elim
      (λ (t : has_constant c ≡ true). rw t (fixed_few w most t h))
      (λ (t : has_constant c ≡ false). rw t (agree_few w (omega (arith, h))))
      (cases_Bool (has_constant c))

abbrev total : (ℕ → Class → ℕ) → ℕ → List Class → ℕ
total f n [] = 0
total f n (c ∷ cs) = f n c + total f (suc n) cs

-- the groups that serve none of some classes
filter_apart : (p q : Part → Bool) (xs : List Part) → ((x : Part) → IsIn x xs → p x ≡ true → q x ≡ true → ⊥) → filter q (filter (λ x. not (p x)) xs) ≡ filter q xs
filter_apart p q [] h = refl
filter_apart p q (x ∷ xs) h =
    let rest = filter_apart p q xs (λ y i. h y (inr i)) in
    ⊎_elim
    (λ (t : p x ≡ true). ⊎_elim
    (λ (u : q x ≡ true). absurd (h x (inl refl) t u))
    (λ (u : q x ≡ false). rw (t, u) rest)
    (cases_Bool (q x)))
    (λ (t : p x ≡ false). rw t (ap (λ (l : List Part). cond (q x) (x ∷ l) l) rest))
    (cases_Bool (p x))

total_few : (f : ℕ → Class → ℕ) (n : ℕ) (cs : List Class) (ps : List Part) → ((m : ℕ) (c : Class) → IsIn c cs → f m c ≤ 8 * weights (filter (serves c) ps)) → ((c d : Class) → Before c d cs → (p : Part) → IsIn p ps → serves c p ≡ true → serves d p ≡ true → ⊥) → total f n cs ≤ 8 * weights ps
total_few f n [] ps each apart = omega arith
total_few f n (c ∷ cs) ps each apart =
    let rest : List Part = filter (λ p. not (serves c p)) ps in
    let a = each n c (inl refl) in
    let b = total_few f (suc n) cs rest
    (λ m d i. subst (λ (l : List Part). f m d ≤ 8 * weights l) (sym (filter_apart (serves c) (serves d) ps (λ p ip s t. apart c d (inl (refl, i)) p ip s t))) (each m d (inr i)))
    (λ d e k p ip. apart d e (inr k) p (in_filter (λ q. not (serves c q)) ps p ip).0) in
    let e = weights-parts (serves c) ps in
    omega (arith, a, b, e)

classes_total : (n : ℕ) (cs : List Class) → length (clauses_from n cs) ≡ total (λ m c. length (class_clauses m c)) n cs
classes_total n [] = refl
classes_total n (c ∷ cs) = append_length (class_clauses n c) (clauses_from (suc n) cs) ∙ ap (λ (k : ℕ). length (class_clauses n c) + k) (classes_total (suc n) cs)

filter_weights : (test : Part → Bool) (ps : List Part) → weights (filter test ps) ≤ weights ps
filter_weights test ps = let e = weights-parts test ps in omega (arith, e)

-- at most 32 conjuncts over relations below 16 make at most 512 clauses
pub few_clauses : (g : Premises) (classes : List Class) → AreClasses g classes → ((c : Class) → IsIn c classes → (x : ColRef) → IsIn x c.members → x.rel.0 < 16) → length g.conjuncts ≤ 32 → length (clause_list g.type_of g.conjuncts classes) ≤ 512
few_clauses g classes are near few =
    let conjuncts = conjuncts_count g 1 g.conjuncts in
    let heavy = grouped_weights g g.conjuncts [] in
    let most : weights (groups_of g) ≤ 64 = omega (arith, heavy, conjuncts, few) in
    let classes_few = total_few (λ m c. length (class_clauses m c)) 0 classes (groups_of g)
    (λ m c i. class_few m c (differ g classes are c i) (near c i) (weights (filter (serves c) (groups_of g))) (let w = filter_weights (serves c) (groups_of g) in omega (arith, w, most)) (served g classes are c i))
    (serves_one g classes are) in
    let e = classes_total 0 classes in
    let a = append_length (conjunct_clauses g.type_of 1 g.conjuncts) (clauses_from 0 classes) in
    omega (arith, conjuncts, heavy, few, classes_few, e, a)
