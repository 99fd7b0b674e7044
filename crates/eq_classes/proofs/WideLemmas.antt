-- However long an ORDER BY is, there are few classes.
use Rattle.std.proofs.Common.{◌≡◌, ℕ, zero, suc, ◌+◌, ◌*◌, ◌<◌, ◌≤◌, Bool, true, false, not, cond, inl, inr, ⊎_elim, List, [], ◌∷◌, ◌++◌, length, filter, filter_map, slice_index_or, nat_lt, Option, Some, None, option_map, refl, sym, ap, ◌∙◌, subst, arith}
use Rattle.std.specs.List.{position_or_len, cons_option}
use Rattle.std.proofs.lemmas.Bool.{cases_Bool, cases_lt, and_parts, true≢false, lt-ltb, ltb-true}
use Rattle.std.proofs.lemmas.Option.{same_Some}
use Rattle.opfamily.specs.pg_value_operators_Family.{Family}
use Rattle.opfamily.specs.Answers.{default_family_of, is_family}
use Rattle.pg_expr.specs.declared.operand.ColRef.{ColRef}
use Rattle.pg_expr.specs.Cond.{Cond}
use Rattle.eq_classes.specs.declared.order.OrderItem.{OrderItem}
use Rattle.eq_classes.specs.Equality.{equality_in}
use Rattle.eq_classes.specs.Classes.{Premises, Class, has_member, Mention, is_in, left_of, in_family, ordered_by, mentions, first_mention, IsClass, AreClasses}
use Rattle.eq_classes.proofs.ListLemmas.{IsIn, Before, earlier_in, later_in, in_at, in_filter, before_filter, in_filter_map, all_at, pairs_at}
use Rattle.eq_classes.proofs.EqualLemmas.{column_is, family_is}
use Rattle.eq_classes.proofs.UniqueLemmas.{meeting}
use Rattle.eq_classes.proofs.CountLemmas.{few_below}

placed : {A : Type 0} → (p : A → Bool) (xs : List A) (d : A) → position_or_len p xs < length xs → p (slice_index_or xs (position_or_len p xs) d) ≡ true
placed p [] d lt = absurd (omega (arith, lt))
placed p (z ∷ zs) d lt = ⊎_elim
    (λ (t : p z ≡ true). rw t t)
    (λ (t : p z ≡ false).
    let less : 1 + position_or_len p zs < suc (length zs) = rw t at lt in
    let e : 1 + position_or_len p zs ≡ suc (position_or_len p zs) = omega arith in
    rw t (ap (λ (n : ℕ). p (slice_index_or (z ∷ zs) n d)) e ∙ placed p zs d (omega (arith, less))))
    (cases_Bool (p z))

at_right : {A : Type 0} → (xs ys : List A) (n : ℕ) (d : A) → length xs ≤ n → n < length (xs ++ ys) → IsIn (slice_index_or (xs ++ ys) n d) ys
at_right [] ys n d le lt = in_at ys n d lt
at_right (x ∷ xs) ys zero d le lt = absurd (omega (arith, le))
at_right (x ∷ xs) ys (suc n) d le lt = at_right xs ys n d (omega (arith, le)) (omega (arith, lt))

chosen_few : {A B : Type 0} → (f : A → Option B) (xs : List A) → length (filter_map f xs) ≤ length xs
chosen_few f [] = omega arith
chosen_few {A} {B} f (x ∷ xs) = by (f x) (chosen_few f xs)
  where
    by : (o : Option B) → length (filter_map f xs) ≤ length xs → length (cons_option o (filter_map f xs)) ≤ suc (length xs)
    by None h = omega (arith, h)
    by (Some y) h = omega (arith, h)

two_parts : {A : Type 0} → (test : A → Bool) (xs : List A) → length (filter test xs) + length (filter (λ x. not (test x)) xs) ≡ length xs
two_parts test [] = refl
two_parts test (x ∷ xs) =
    let e = two_parts test xs in
    ⊎_elim
    (λ (t : test x ≡ true). rw t (omega (arith, e)))
    (λ (t : test x ≡ false). rw t (omega (arith, e)))
    (cases_Bool (test x))

of_item : (x : ColRef) (o : Option Family) (m : Mention) → option_map (in_family x) o ≡ Some m → (m.column ≡ x) × (o ≡ Some m.family)
of_item x None m h = cc
of_item x (Some f) m h =
    let e : in_family x f ≡ m = same_Some (in_family x f) m h in
    (ap (λ (n : Mention). n.column) (sym e), ap (λ (n : Mention). Some n.family) e)

module _ (g : Premises) (classes : List Class) (are : AreClasses g classes) (near : (i : OrderItem) → IsIn i g.order → i.col.rel.0 < 16) (narrow : (i : OrderItem) → IsIn i g.order → i.col.col.0 < 256) where
  abbrev early : List Mention
  early = filter_map (λ k. option_map left_of (equality_in g.type_of k)) g.conjuncts

  abbrev late : List Mention
  late = filter_map (ordered_by g.type_of) g.order

  abbrev place : Class → ℕ
  place c = first_mention g c

  abbrev mention_at : Class → Mention
  mention_at c = slice_index_or (mentions g) (place c) (record { family = c.family; column = record { rel = record { 0 = 0 }; col = record { 0 = 0 } } })

  abbrev is_early : Class → Bool
  is_early c = nat_lt (place c) (length early)

  rises : (c d : Class) → Before c d classes → place c < place d
  rises c d b = pairs_at (λ a e. place a < place e) classes are.numbered c d b

  low : (c : Class) → IsIn c classes → place c < length (mentions g)
  low c i = all_at (λ e. place e < length (mentions g)) classes are.none_else c i

  in_own : (c : Class) → IsIn c classes → is_in c (mention_at c) ≡ true
  in_own c i = placed (is_in c) (mentions g) _ (low c i)

  is_late : (c : Class) → IsIn c (filter (λ e. not (is_early e)) classes) → IsIn c classes × (length early ≤ place c)
  is_late c i =
      let w = in_filter (λ e. not (is_early e)) classes c i in
      (w.0, ⊎_elim (λ (lt : place c < length early). absurd (true≢false (sym w.1 ∙ ap not (lt-ltb (place c) (length early) lt)))) (λ (ge : length early ≤ place c). ge) (cases_lt (place c) (length early)))

  abbrev OfItem : Mention → Type 0
  OfItem m = (i : OrderItem) × IsIn i g.order × (m.column ≡ i.col) × (default_family_of (g.type_of i.col) ≡ Some m.family)

  late_item : (c : Class) → IsIn c (filter (λ e. not (is_early e)) classes) → OfItem (mention_at c)
  late_item c i =
      let w = is_late c i in
      let m = at_right early late (place c) _ w.1 (low c w.0) in
      let v = in_filter_map (ordered_by g.type_of) g.order (mention_at c) m in
      let o = of_item (v.0).col (default_family_of (g.type_of (v.0).col)) (mention_at c) v.2 in
      (v.0, v.1, o.0, o.1)

  abbrev code : ColRef → ℕ
  code x = x.rel.0 * 256 + x.col.0

  abbrev made : ℕ → ℕ → ColRef
  made r k = record { rel = record { 0 = r }; col = record { 0 = k } }

  same_code : (x y : ColRef) → x.col.0 < 256 → y.col.0 < 256 → code x ≡ code y → x ≡ y
  same_code x y p q e =
      let rel : x.rel.0 ≡ y.rel.0 = omega (arith, p, q, e) in
      let col : x.col.0 ≡ y.col.0 = omega (arith, rel, e) in
      ap (λ (n : ℕ). made n x.col.0) rel ∙ ap (made y.rel.0) col

  late_few : length (filter (λ e. not (is_early e)) classes) ≤ 4096
  late_few = few_below (λ c. code (mention_at c).column) 4096 (filter (λ e. not (is_early e)) classes)
      (λ c d b e.
      let ic = earlier_in c d (filter (λ k. not (is_early k)) classes) b in
      let id = later_in c d (filter (λ k. not (is_early k)) classes) b in
      let v = late_item c ic in
      let w = late_item d id in
      let same : (mention_at c).column ≡ (mention_at d).column = same_code (mention_at c).column (mention_at d).column
      (subst (λ (x : ColRef). x.col.0 < 256) (sym v.2) (narrow v.0 v.1)) (subst (λ (x : ColRef). x.col.0 < 256) (sym w.2) (narrow w.0 w.1)) e in
      let item : (v.0).col ≡ (w.0).col = sym v.2 ∙ same ∙ w.2 in
      let fam : (mention_at c).family ≡ (mention_at d).family = same_Some (mention_at c).family (mention_at d).family (sym v.3 ∙ ap (λ (x : ColRef). default_family_of (g.type_of x)) item ∙ w.3) in
      let jc = (is_late c ic).0 in
      let jd = (is_late d id).0 in
      let pc = and_parts (is_family c.family (mention_at c).family) (has_member c (mention_at c).column) (in_own c jc) in
      let pd = and_parts (is_family d.family (mention_at d).family) (has_member d (mention_at d).column) (in_own d jd) in
      let one : c ≡ d = meeting g c d (all_at (IsClass g) classes are.each c jc) (all_at (IsClass g) classes are.each d jd)
      (family_is c.family (mention_at c).family pc.0 ∙ fam ∙ sym (family_is d.family (mention_at d).family pd.0)) (mention_at c).column pc.1 (ap (has_member d) same ∙ pd.1) in
      let lt = rises c d (before_filter (λ k. not (is_early k)) classes c d b) in
      let s : place c ≡ place d = ap place one in
      omega (arith, lt, s))
      (λ c i.
      let v = late_item c i in
      let r : (mention_at c).column.rel.0 < 16 = subst (λ (x : ColRef). x.rel.0 < 16) (sym v.2) (near v.0 v.1) in
      let k : (mention_at c).column.col.0 < 256 = subst (λ (x : ColRef). x.col.0 < 256) (sym v.2) (narrow v.0 v.1) in
      omega (arith, r, k))

  early_few : length (filter is_early classes) ≤ length early
  early_few = few_below place (length early) (filter is_early classes)
      (λ c d b e. let lt = rises c d (before_filter is_early classes c d b) in omega (arith, lt, e))
      (λ c i. ltb-true (place c) (length early) (in_filter is_early classes c i).1)

  pub classes_few : length classes ≤ length g.conjuncts + 4096
  classes_few =
      let a = early_few in
      let b = late_few in
      let d = chosen_few (λ k. option_map left_of (equality_in g.type_of k)) g.conjuncts in
      let e = two_parts is_early classes in
      omega (arith, a, b, d, e)
