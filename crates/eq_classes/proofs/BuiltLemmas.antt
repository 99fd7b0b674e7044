-- The classes that are made, mention by mention, are those of the conjuncts and the ORDER BY.
use Rattle.std.proofs.Common.{◌≡◌, ℕ, suc, ◌+◌, ◌<◌, ◌≤◌, Bool, true, false, inl, inr, ⊎_elim, List, [], ◌∷◌, ◌++◌, length, find, filter_map, Option, Some, None, option_map, refl, sym, ap, ◌∙◌, subst, arith, append_assoc, append-nil}
use Rattle.std.specs.List.{list_any, position_or_len, cons_option}
use Rattle.std.proofs.lemmas.Bool.{cases_Bool, and_parts, and_from, or_left, or_right, true≢false}
use Rattle.opfamily.specs.pg_value_operators_Family.{Family}
use Rattle.opfamily.specs.pg_value_value_Value.{Value}
use Rattle.pg_expr.specs.declared.operand.ColRef.{ColRef}
use Rattle.pg_expr.specs.declared.operand.Operand.{Operand}
use Rattle.pg_expr.specs.declared.operand.Operand.TheVariants.{Col, Lit}
use Rattle.pg_expr.specs.Cond.{Cond}
use Rattle.pg_expr.specs.Pushed.{is_lower}
use Rattle.eq_classes.specs.declared.order.OrderItem.{OrderItem}
use Rattle.eq_classes.specs.Equality.{Equality, equal_in, equality_in, is_column}
use Rattle.opfamily.specs.Answers.{is_family}
use Rattle.eq_classes.specs.Classes.{Premises, Linked, conjunct, constant, same, turned, chain, Class, has_member, Mention, is_in, left_of, ordered_by, mentions, first_mention, literals, IsClass, AreClasses}
use Rattle.eq_classes.specs.work.Grouping.{Part, has_side, grouped}
use Rattle.eq_classes.specs.work.Building.{arranged, is_group_of, columns_by, members_of, class_with, with_mention, mention_in, left_by, by_conjuncts, by_order, all_classes}
use Rattle.eq_classes.proofs.ListLemmas.{IsIn, Before, earlier_in, later_in, in_parts, in_from_contains, all_from, found_in, found_passes, any_from, any_at, pairs_all}
use Rattle.eq_classes.proofs.EqualLemmas.{column_is, family_is, family_self}
use Rattle.eq_classes.proofs.ClassHoldLemmas.{column_self}
use Rattle.eq_classes.proofs.SoundLemmas.{member_in, in_member}
use Rattle.eq_classes.proofs.PartitionLemmas.{are_partition, are_joined, closed, before_end, any-append}
use Rattle.eq_classes.proofs.MemberLemmas.{Rises, arranged_rises, arranged_in, in_arranged, noted_distinct}

none_some : {A : Type 0} {x : A} → Some x ≡ None → ⊥
none_some e = cc

none_found : {A : Type 0} → (test : A → Bool) (xs : List A) → find test xs ≡ None → (x : A) → IsIn x xs → test x ≡ true → ⊥
none_found test [] e x i h = i
none_found test (z ∷ zs) e x i h = ⊎_elim
    (λ (t : test z ≡ true). none_some (rw t at e))
    (λ (t : test z ≡ false). ⊎_elim (λ (s : x ≡ z). true≢false (sym h ∙ ap test s ∙ t)) (λ (j : IsIn x zs). none_found test zs (rw t at e) x j h) i)
    (cases_Bool (test z))

-- the place of the first, in a list that goes on
place_more : {A : Type 0} → (p : A → Bool) (xs ys : List A) → position_or_len p xs < length xs → position_or_len p (xs ++ ys) ≡ position_or_len p xs
place_more p [] ys lt = absurd (omega (arith, lt))
place_more p (z ∷ zs) ys lt = ⊎_elim
    (λ (t : p z ≡ true). rw t refl)
    (λ (t : p z ≡ false).
    let less : 1 + position_or_len p zs < suc (length zs) = rw t at lt in
    rw t (ap (λ (n : ℕ). 1 + n) (place_more p zs ys (omega (arith, less)))))
    (cases_Bool (p z))

one_more : (n : ℕ) → 1 + n ≡ suc n
one_more n = omega arith

place_new : {A : Type 0} → (p : A → Bool) (xs : List A) (m : A) → ((x : A) → IsIn x xs → p x ≡ true → ⊥) → p m ≡ true → position_or_len p (xs ++ m ∷ []) ≡ length xs
place_new p [] m none h = rw h refl
place_new p (z ∷ zs) m none h = ⊎_elim
    (λ (t : p z ≡ true). absurd (none z (inl refl) t))
    (λ (t : p z ≡ false). rw t (ap (λ (n : ℕ). 1 + n) (place_new p zs m (λ x i. none x (inr i)) h) ∙ one_more (length zs)))
    (cases_Bool (p z))

length_more : {A : Type 0} → (xs : List A) (m : A) → length (xs ++ m ∷ []) ≡ suc (length xs)
length_more [] m = refl
length_more (z ∷ zs) m = ap suc (length_more zs m)

left_is : (o : Option Equality) → left_by o ≡ option_map left_of o
left_is None = refl
left_is (Some e) = refl

-- the classes of the mentions so far
pub record IsSoFar (g : Premises) (done : List Mention) (out : List Class) : Type 0 where
  pub each : (c : Class) → IsIn c out → IsClass g c
  pub every : (m : Mention) → IsIn m done → list_any (λ c. is_in c m) out ≡ true
  pub first : (c : Class) → IsIn c out → position_or_len (is_in c) done < length done
  pub rises : (c d : Class) → Before c d out → position_or_len (is_in c) done < position_or_len (is_in d) done

not_column : (a : Value) (x : ColRef) → {P : Type 0} → Lit a ≡ Col x → P
not_column a x h = cc

column_same : (b x : ColRef) → Col b ≡ Col x → b ≡ x
column_same b x h = cc

in_one : (a x : ColRef) → IsIn a (x ∷ []) → a ≡ x
in_one a x (inl e) = e
in_one a x (inr h) = absurd h

only_one : (x a b : ColRef) → Before a b (x ∷ []) → is_lower a b ≡ true
only_one x a b (inl h) = absurd h.1
only_one x a b (inr h) = absurd h

in_columns : (cs : List ColRef) (y : ColRef) → IsIn y (arranged cs []) → IsIn y cs
in_columns cs y h = ⊎_elim (λ (i : IsIn y cs). i) (λ (no : ⊥). absurd no) (arranged_in cs [] y h)

column_side : (p : Part) (y : ColRef) → IsIn y p.columns → has_side p (Col y) ≡ true
column_side p y i = any_from (is_column y) p.columns y i (column_self y)

side_column : (p : Part) (y : ColRef) → has_side p (Col y) ≡ true → IsIn y p.columns
side_column p y h = let w = any_at (is_column y) p.columns h in subst (λ (a : ColRef). IsIn a p.columns) (sym (column_is y w.0 w.2)) w.1

module _ (g : Premises) where
  abbrev ps : List Part
  ps = grouped g.type_of g.conjuncts []

  -- members that are in order and linked make a class
  module _ (f : Family) (members : List ColRef) (rises : Rises members) (linked : (x y : ColRef) → IsIn x members → (IsIn y members → Linked g f (Col x) (Col y)) × (Linked g f (Col x) (Col y) → IsIn y members)) where
    abbrev whole : Class
    whole = class_with g f members

    pub made_class : IsClass g (class_with g f members)
    made_class = record {
      joined = λ x y hx.
          let w = linked x y (member_in whole x hx) in
          (λ hy. w.0 (member_in whole y hy), λ l. in_member whole y (w.1 l));
      rising = pairs_all (λ x y. is_lower x y ≡ true) members rises;
      constants = noted_distinct f (literals g whole);
      direction = refl;
    }

  -- a column that no group of the family has is linked to itself alone
  pub alone : (f : Family) (x : ColRef) → ((p : Part) → IsIn p ps → p.family ≡ f → has_side p (Col x) ≡ true → ⊥) → (u v : Operand) → Linked g f u v → (u ≡ Col x → v ≡ Col x) × (v ≡ Col x → u ≡ Col x)
  alone f x none u v (conjunct k c o i is) =
      let j = are_joined g k (in_from_contains g.conjuncts k i) (equal_in c o f) is in
      (λ e. absurd (none j.part j.inside j.family (ap (has_side j.part) (sym e) ∙ j.left)), λ e. absurd (none j.part j.inside j.family (ap (has_side j.part) (sym e) ∙ j.right)))
  alone f x none u v (constant a b e) = (λ h. not_column a x h, λ h. not_column b x h)
  alone f x none u v (same z) = (λ h. h, λ h. h)
  alone f x none u v (turned a b m) = let w = alone f x none a b m in (w.1, w.0)
  alone f x none u v (chain a b d m n) = let w = alone f x none a b m in let w' = alone f x none b d n in (λ h. w'.0 (w.0 h), λ h. w.1 (w'.1 h))

  class_by : (f : Family) (x : ColRef) (o : Option Part) → find (is_group_of f x) ps ≡ o → IsClass g (class_with g f (columns_by x o)) × IsIn x (columns_by x o)
  class_by f x None e =
      let none : (p : Part) → IsIn p ps → p.family ≡ f → has_side p (Col x) ≡ true → ⊥ = λ p i fam h.
      none_found (is_group_of f x) ps e p i (and_from _ _ (ap (is_family f) fam ∙ family_self f) h) in (
        made_class f (x ∷ []) (λ a b w. only_one x a b w) (λ a b i.
            let is : a ≡ x = in_one a x i in
            (λ j. subst (λ (c : ColRef). Linked g f (Col a) (Col c)) (is ∙ sym (in_one b x j)) (same (Col a)), λ l. inl (column_same b x ((alone f x none (Col a) (Col b) l).0 (ap Col is))))),
        inl refl,
      )
  class_by f x (Some p) e =
      let i : IsIn p ps = found_in (is_group_of f x) ps p e in
      let parts = and_parts (is_family f p.family) (list_any (is_column x) p.columns) (found_passes (is_group_of f x) ps p e) in
      let fam : p.family ≡ f = sym (family_is f p.family parts.0) in (
        made_class f (arranged p.columns []) (arranged_rises p.columns [] (λ a b w. absurd w)) (λ a b ia.
            let ha : has_side p (Col a) ≡ true = column_side p a (in_columns p.columns a ia) in (
              λ ib. subst (λ (h : Family). Linked g h (Col a) (Col b)) fam ((are_partition g).linked p i (Col a) (Col b) ha (column_side p b (in_columns p.columns b ib))),
              λ l. in_arranged p.columns [] b (inl (side_column p b ((closed g p i f fam (Col a) (Col b) l).0 ha))),
            )),
        in_arranged p.columns [] x (inl (side_column p x parts.1)),
      )

  class_at : (m : Mention) → IsClass g (class_with g m.family (members_of ps m.family m.column)) × IsIn m.column (members_of ps m.family m.column)
  class_at m = class_by m.family m.column (find (is_group_of m.family m.column) ps) refl

  abbrev class_of : Mention → Class
  class_of m = class_with g m.family (members_of ps m.family m.column)

  more_length : (done : List Mention) (m : Mention) (n : ℕ) → n < length done → n < length (done ++ m ∷ [])
  more_length done m n lt = let e = length_more done m in omega (arith, lt, e)

  placed : (done : List Mention) (out : List Class) (m : Mention) → IsSoFar g done out → list_any (λ c. is_in c m) out ≡ true → IsSoFar g (done ++ m ∷ []) out
  placed done out m old t = record {
    each = old.each;
    every = λ k i. ⊎_elim
        (λ (a : IsIn k done). old.every k a)
        (λ (a : IsIn k (m ∷ [])). ⊎_elim (λ (e : k ≡ m). ap (λ (j : Mention). list_any (λ c. is_in c j) out) e ∙ t) (λ (no : ⊥). absurd no) a)
        (in_parts k done (m ∷ []) i);
    first = λ c i. subst (λ (n : ℕ). n < length (done ++ m ∷ [])) (sym (place_more (is_in c) done (m ∷ []) (old.first c i))) (more_length done m (position_or_len (is_in c) done) (old.first c i));
    rises = λ c d b.
        let e = place_more (is_in c) done (m ∷ []) (old.first c (earlier_in c d out b)) in
        let e' = place_more (is_in d) done (m ∷ []) (old.first d (later_in c d out b)) in
        let lt = old.rises c d b in
        subst (λ (n : ℕ). n < position_or_len (is_in d) (done ++ m ∷ [])) (sym e) (subst (λ (n : ℕ). position_or_len (is_in c) done < n) (sym e') lt);
  }

  -- no earlier mention is in the class of a mention that is in no class
  not_earlier : (done : List Mention) (out : List Class) (m : Mention) → IsSoFar g done out → list_any (λ c. is_in c m) out ≡ false → (k : Mention) → IsIn k done → is_in (class_of m) k ≡ true → ⊥
  not_earlier done out m old t k i h =
      let w = any_at (λ c. is_in c k) out (old.every k i) in
      let d : Class = w.0 in
      let of_d = and_parts (is_family d.family k.family) (has_member d k.column) w.2 in
      let of_m = and_parts (is_family m.family k.family) (has_member (class_of m) k.column) h in
      let fam : m.family ≡ d.family = family_is m.family k.family of_m.0 ∙ sym (family_is d.family k.family of_d.0) in
      let own = class_at m in
      let l : Linked g m.family (Col k.column) (Col m.column) = ((own.0).joined k.column m.column of_m.1).0 (in_member (class_of m) m.column own.1) in
      let has : has_member d m.column ≡ true = ((old.each d w.1).joined k.column m.column of_d.1).1 (subst (λ (f : Family). Linked g f (Col k.column) (Col m.column)) fam l) in
      true≢false (sym (any_from (λ c. is_in c m) out d w.1 (and_from _ _ (ap (is_family d.family) fam ∙ family_self d.family) has)) ∙ t)

  fresh : (done : List Mention) (out : List Class) (m : Mention) → IsSoFar g done out → list_any (λ c. is_in c m) out ≡ false → IsSoFar g (done ++ m ∷ []) (out ++ class_of m ∷ [])
  fresh done out m old t =
      let own = class_at m in
      let is : is_in (class_of m) m ≡ true = and_from _ _ (family_self m.family) (in_member (class_of m) m.column own.1) in
      let place : position_or_len (is_in (class_of m)) (done ++ m ∷ []) ≡ length done = place_new (is_in (class_of m)) done m (not_earlier done out m old t) is in
      record {
        each = λ c i. ⊎_elim
            (λ (a : IsIn c out). old.each c a)
            (λ (a : IsIn c (class_of m ∷ [])). ⊎_elim (λ (e : c ≡ class_of m). subst (IsClass g) (sym e) own.0) (λ (no : ⊥). absurd no) a)
            (in_parts c out (class_of m ∷ []) i);
        every = λ k i. any-append (λ c. is_in c k) out (class_of m ∷ []) ∙ ⊎_elim
            (λ (a : IsIn k done). or_left (list_any (λ c. is_in c k) out) (list_any (λ c. is_in c k) (class_of m ∷ [])) (old.every k a))
            (λ (a : IsIn k (m ∷ [])). ⊎_elim
            (λ (e : k ≡ m). or_right (list_any (λ c. is_in c k) out) (list_any (λ c. is_in c k) (class_of m ∷ [])) (or_left (is_in (class_of m) k) false (ap (is_in (class_of m)) e ∙ is)))
            (λ (no : ⊥). absurd no) a)
            (in_parts k done (m ∷ []) i);
        first = λ c i. ⊎_elim
            (λ (a : IsIn c out). subst (λ (n : ℕ). n < length (done ++ m ∷ [])) (sym (place_more (is_in c) done (m ∷ []) (old.first c a))) (more_length done m (position_or_len (is_in c) done) (old.first c a)))
            (λ (a : IsIn c (class_of m ∷ [])). ⊎_elim
            (λ (e : c ≡ class_of m). subst (λ (d : Class). position_or_len (is_in d) (done ++ m ∷ []) < length (done ++ m ∷ [])) (sym e) (let l = length_more done m in omega (arith, place, l)))
            (λ (no : ⊥). absurd no) a)
            (in_parts c out (class_of m ∷ []) i);
        rises = λ c d b. ⊎_elim
            (λ (a : Before c d out).
            let e = place_more (is_in c) done (m ∷ []) (old.first c (earlier_in c d out a)) in
            let e' = place_more (is_in d) done (m ∷ []) (old.first d (later_in c d out a)) in
            subst (λ (n : ℕ). n < position_or_len (is_in d) (done ++ m ∷ [])) (sym e) (subst (λ (n : ℕ). position_or_len (is_in c) done < n) (sym e') (old.rises c d a)))
            (λ (a : IsIn c out × (d ≡ class_of m)).
            let e = place_more (is_in c) done (m ∷ []) (old.first c a.0) in
            subst (λ (n : ℕ). n < position_or_len (is_in d) (done ++ m ∷ [])) (sym e) (subst (λ (h : Class). position_or_len (is_in c) done < position_or_len (is_in h) (done ++ m ∷ [])) (sym a.1) (subst (λ (n : ℕ). position_or_len (is_in c) done < n) (sym place) (old.first c a.0))))
            (before_end out (class_of m) c d b);
      }

  step : (done : List Mention) (out : List Class) (m : Mention) → IsSoFar g done out → IsSoFar g (done ++ m ∷ []) (with_mention g ps (Some m) out)
  step done out m old = ⊎_elim
      (λ (t : list_any (λ c. is_in c m) out ≡ true). rw t (placed done out m old t))
      (λ (t : list_any (λ c. is_in c m) out ≡ false). rw t (fresh done out m old t))
      (cases_Bool (list_any (λ c. is_in c m) out))

  abbrev sequel : List Mention → Option Mention → List Mention
  sequel done None = done
  sequel done (Some m) = done ++ m ∷ []

  step_option : (done : List Mention) (out : List Class) (o : Option Mention) → IsSoFar g done out → IsSoFar g (sequel done o) (with_mention g ps o out)
  step_option done out None old = old
  step_option done out (Some m) old = step done out m old

  sequel_is : (done : List Mention) (o : Option Mention) (rest : List Mention) → sequel done o ++ rest ≡ done ++ cons_option o rest
  sequel_is done None rest = refl
  sequel_is done (Some m) rest = append_assoc done (m ∷ []) rest

  conjuncts_done : (ks : List Cond) (done : List Mention) (out : List Class) → IsSoFar g done out
      → IsSoFar g (done ++ filter_map (λ k. option_map left_of (equality_in g.type_of k)) ks) (by_conjuncts g ps ks out)
  conjuncts_done [] done out old = subst (λ (d : List Mention). IsSoFar g d out) (sym (append-nil done)) old
  conjuncts_done (k ∷ ks) done out old =
      let o : Option Mention = mention_in g.type_of k in
      let rest = filter_map (λ j. option_map left_of (equality_in g.type_of j)) ks in
      let e : sequel done o ++ rest ≡ done ++ cons_option (option_map left_of (equality_in g.type_of k)) rest = sequel_is done o rest ∙ ap (λ (a : Option Mention). done ++ cons_option a rest) (left_is (equality_in g.type_of k)) in
      subst (λ (d : List Mention). IsSoFar g d (by_conjuncts g ps ks (with_mention g ps o out))) e (conjuncts_done ks (sequel done o) (with_mention g ps o out) (step_option done out o old))

  order_done : (is : List OrderItem) (done : List Mention) (out : List Class) → IsSoFar g done out → IsSoFar g (done ++ filter_map (ordered_by g.type_of) is) (by_order g ps is out)
  order_done [] done out old = subst (λ (d : List Mention). IsSoFar g d out) (sym (append-nil done)) old
  order_done (i ∷ is) done out old =
      let o : Option Mention = ordered_by g.type_of i in
      let rest = filter_map (ordered_by g.type_of) is in
      subst (λ (d : List Mention). IsSoFar g d (by_order g ps is (with_mention g ps o out))) (sequel_is done o rest) (order_done is (sequel done o) (with_mention g ps o out) (step_option done out o old))

  at_first : IsSoFar g [] []
  at_first = record { each = λ c i. absurd i; every = λ m i. absurd i; first = λ c i. absurd i; rises = λ c d b. absurd b }

  pub all_are_classes : AreClasses g (all_classes g)
  all_are_classes =
      let done : IsSoFar g (mentions g) (all_classes g) = order_done g.order (filter_map (λ k. option_map left_of (equality_in g.type_of k)) g.conjuncts) (by_conjuncts g ps g.conjuncts []) (conjuncts_done g.conjuncts [] [] at_first) in
      record {
        each = all_from (IsClass g) (all_classes g) done.each;
        every = all_from (λ m. list_any (λ c. is_in c m) (all_classes g) ≡ true) (mentions g) done.every;
        none_else = all_from (λ c. first_mention g c < length (mentions g)) (all_classes g) done.first;
        numbered = pairs_all (λ c d. first_mention g c < first_mention g d) (all_classes g) done.rises;
      }

pub built_is : (g : Premises) (ps qs : List Part) (start mid last : List Class) → ps ≡ grouped g.type_of g.conjuncts [] → qs ≡ grouped g.type_of g.conjuncts [] → start ≡ [] → mid ≡ by_conjuncts g ps g.conjuncts start → last ≡ by_order g qs g.order mid → last ≡ all_classes g
built_is g ps qs start mid last p q s m l =
    l
    ∙ ap (λ (a : List Part). by_order g a g.order mid) q
    ∙ ap (λ (a : List Class). by_order g (grouped g.type_of g.conjuncts []) g.order a) (m ∙ ap (λ (a : List Part). by_conjuncts g a g.conjuncts start) p ∙ ap (λ (a : List Class). by_conjuncts g (grouped g.type_of g.conjuncts []) g.conjuncts a) s)
