-- In the classes of well typed conjuncts the family of each takes the types of its columns, and the values fit it under each binding that fits the types.
use Rattle.std.proofs.Common.{◌≡◌, suc, ◌+◌, ◌<◌, Bool, true, false, not, ◌&&◌, ◌⊎◌, inl, inr, ⊎_elim, List, [], ◌∷◌, length, filter_map, nat_eq, nat_lt, All, AllPairs, Contains, Option, Some, None, option_map, refl, sym, ap, ◌∙◌, subst, arith}
use Rattle.std.specs.List.{position_or_len}
use Rattle.std.proofs.lemmas.Bool.{cases_Bool, and_parts, or_cases, ltb-true}
use Rattle.std.proofs.lemmas.Option.{same_Some}
use Rattle.opfamily.specs.pg_value_operators_Family.{Family}
use Rattle.opfamily.specs.pg_value_value_Value.{Value}
use Rattle.opfamily.specs.pg_value_work_Order.{IsOfFamily}
use Rattle.pg_expr.specs.declared.operand.ColRef.{ColRef}
use Rattle.pg_expr.specs.declared.operand.Operand.{Operand}
use Rattle.pg_expr.specs.declared.operand.Operand.TheVariants.{Col, Lit}
use Rattle.pg_expr.specs.Cond.{Cond}
use Rattle.pg_expr.specs.Pushed.{is_lower}
use Rattle.pg_expr.specs.Typed.{IsTyped, some_value}
use Rattle.opfamily.specs.Answers.{default_family_of, is_family, takes}
use Rattle.eq_classes.specs.declared.order.OrderItem.{OrderItem}
use Rattle.eq_classes.specs.Equality.{Equality, equal_in, equality_in, is_column, are_equal}
use Rattle.eq_classes.specs.Classes.{Premises, Linked, conjunct, constant, same, turned, chain, Class, has_member, Mention, is_in, left_of, in_family, ordered_by, mentions, first_mention, literal_of, literal_in, literals, distinct, IsClass, AreClasses}
use Rattle.eq_classes.specs.work.Grouping.{Suits}
use Rattle.eq_classes.specs.work.Holding.{Fits}
use Rattle.eq_classes.proofs.ListLemmas.{IsIn, Before, in_parts, in_filter, in_filter_map, in_from_contains, all_at, pairs_at, any_from, any_at}
use Rattle.eq_classes.proofs.EqualLemmas.{column_is, family_is}
use Rattle.eq_classes.proofs.DefaultLemmas.{default_takes, takes_fits}
use Rattle.eq_classes.proofs.SideLemmas.{TakesSide, left_takes, right_suits, right_takes, type_fits}
use Rattle.eq_classes.proofs.ClassHoldLemmas.{IsSound, column_self}

pub member_in : (c : Class) (x : ColRef) → has_member c x ≡ true → IsIn x c.members
member_in c x h =
    let w = any_at (is_column x) c.members h in
    subst (λ (y : ColRef). IsIn y c.members) (sym (column_is x w.0 w.2)) w.1

pub in_member : (c : Class) (x : ColRef) → IsIn x c.members → has_member c x ≡ true
in_member c x h = any_from (is_column x) c.members x h (column_self x)

pub distinct_in : (f : Family) (vs : List Value) (v : Value) → IsIn v (distinct f vs) → IsIn v vs
distinct_in f [] v h = absurd h
distinct_in f (w ∷ ws) v (inl e) = inl e
distinct_in f (w ∷ ws) v (inr h) = inr (distinct_in f ws v (in_filter (λ u. not (are_equal f w u)) (distinct f ws) v h).0)

some_value_is : (w v : Value) → Some w ≡ Some v → w ≡ v
some_value_is w v h = cc

literal_is : (o : Operand) (v : Value) → literal_of o ≡ Some v → o ≡ Lit v
literal_is (Col d) v h = cc
literal_is (Lit w) v h = ap Lit (some_value_is w v h)

-- where a literal of a class stands
pub record IsLiteral (g : Premises) (c : Class) (v : Value) : Type 0 where
  pub cond : Cond
  pub equality : Equality
  pub given : IsIn cond g.conjuncts
  pub is : equality_in g.type_of cond ≡ Some equality
  pub family : c.family ≡ equality.family
  pub left : IsIn equality.left c.members
  pub right : equality.right ≡ Lit v

literal_at : (g : Premises) (c : Class) (v : Value) (k : Cond) → IsIn k g.conjuncts → (o : Option Equality) → equality_in g.type_of k ≡ o → literal_in c o ≡ Some v → IsLiteral g c v
literal_at g c v k i None e h = cc
literal_at g c v k i (Some q) e h = ⊎_elim
    (λ (t : is_in c (left_of q) ≡ true).
    let parts = and_parts (is_family c.family q.family) (has_member c q.left) t in
    record { cond = k; equality = q; given = i; is = e; family = family_is c.family q.family parts.0; left = member_in c q.left parts.1; right = literal_is q.right v (rw t at h) })
    (λ (t : is_in c (left_of q) ≡ false). let no : None ≡ Some v = rw t at h in cc)
    (cases_Bool (is_in c (left_of q)))

pub literal_stands : (g : Premises) (c : Class) (v : Value) → IsIn v (literals g c) → IsLiteral g c v
literal_stands g c v h =
    let w = in_filter_map (λ k. literal_in c (equality_in g.type_of k)) g.conjuncts v h in
    literal_at g c v w.0 w.1 (equality_in g.type_of w.0) refl w.2

pub position_found : {A : Type 0} → (p : A → Bool) (xs : List A) → position_or_len p xs < length xs → (m : A) × IsIn m xs × (p m ≡ true)
position_found p [] lt = absurd (omega (arith, lt))
position_found p (z ∷ zs) lt = ⊎_elim
    (λ (t : p z ≡ true). (z, inl refl, t))
    (λ (t : p z ≡ false).
    let less : 1 + position_or_len p zs < suc (length zs) = rw t at lt in
    let w = position_found p zs (omega (arith, less)) in
    (w.0, inr w.1, w.2))
    (cases_Bool (p z))

-- no column is below itself
not_lower : (x : ColRef) → is_lower x x ≡ true → ⊥
not_lower x h = ⊎_elim
    (λ (t : nat_lt x.rel.0 x.rel.0 ≡ true). omega (arith, ltb-true x.rel.0 x.rel.0 t))
    (λ (t : nat_eq x.rel.0 x.rel.0 && nat_lt x.col.0 x.col.0 ≡ true). omega (arith, ltb-true x.col.0 x.col.0 (and_parts (nat_eq x.rel.0 x.rel.0) (nat_lt x.col.0 x.col.0) t).1))
    (or_cases (nat_lt x.rel.0 x.rel.0) (nat_eq x.rel.0 x.rel.0 && nat_lt x.col.0 x.col.0) h)

pub members_differ : (c : Class) → AllPairs (λ u v. is_lower u v ≡ true) c.members → (x y : ColRef) → Before x y c.members → is_column x y ≡ false
members_differ c rising x y before = ⊎_elim
    (λ (t : is_column x y ≡ true). absurd (not_lower x (subst (λ (z : ColRef). is_lower x z ≡ true) (sym (column_is x y t)) (pairs_at (λ u v. is_lower u v ≡ true) c.members rising x y before))))
    (λ (t : is_column x y ≡ false). t)
    (cases_Bool (is_column x y))

module _ (g : Premises) (typed : All (IsTyped g.type_of) g.conjuncts) where
  abbrev Taken : Family → Operand → Type 0
  Taken f o = TakesSide g.type_of f o

  typed_at : (k : Cond) → Contains g.conjuncts k → IsTyped g.type_of k
  typed_at k i = all_at (IsTyped g.type_of) g.conjuncts typed k (in_from_contains g.conjuncts k i)

  linked_takes : (f : Family) (x y : Operand) → Linked g f x y → (x ≡ y) ⊎ ((Taken f x) × (Taken f y))
  linked_takes f x y (conjunct k c o i e) = inr (left_takes g.type_of k (equal_in c o f) e (typed_at k i), right_takes g.type_of k (equal_in c o f) e (typed_at k i))
  linked_takes f x y (constant v w e) = inr (tt, tt)
  linked_takes f x y (same z) = inl refl
  linked_takes f x y (turned u v l) = ⊎_elim (λ e. inl (sym e)) (λ h. inr (h.1, h.0)) (linked_takes f u v l)
  linked_takes f x y (chain u v w l m) = ⊎_elim
      (λ (e : u ≡ v). ⊎_elim (λ (e' : v ≡ w). inl (e ∙ e')) (λ (h : (Taken f v) × (Taken f w)). inr (subst (Taken f) (sym e) h.0, h.1)) (linked_takes f v w m))
      (λ (h : (Taken f u) × (Taken f v)). ⊎_elim (λ (e' : v ≡ w). inr (h.0, subst (Taken f) e' h.1)) (λ (h' : (Taken f v) × (Taken f w)). inr (h.0, h'.1)) (linked_takes f v w m))
      (linked_takes f u v l)

  mention_of : (m : Mention) (k : Cond) → IsIn k g.conjuncts → (o : Option Equality) → equality_in g.type_of k ≡ o → option_map left_of o ≡ Some m → takes m.family (g.type_of m.column) ≡ true
  mention_of m k i None e h = cc
  mention_of m k i (Some q) e h =
      let is : left_of q ≡ m = same_Some (left_of q) m h in
      subst (λ (n : Mention). takes n.family (g.type_of n.column) ≡ true) is (left_takes g.type_of k q e (all_at (IsTyped g.type_of) g.conjuncts typed k i))

  mention_by : (m : Mention) (item : OrderItem) (o : Option Family) → default_family_of (g.type_of item.col) ≡ o → option_map (in_family item.col) o ≡ Some m → takes m.family (g.type_of m.column) ≡ true
  mention_by m item None e h = cc
  mention_by m item (Some f) e h =
      let is : in_family item.col f ≡ m = same_Some (in_family item.col f) m h in
      subst (λ (n : Mention). takes n.family (g.type_of n.column) ≡ true) is (default_takes (g.type_of item.col) f e)

  mention_takes : (m : Mention) → IsIn m (mentions g) → takes m.family (g.type_of m.column) ≡ true
  mention_takes m h = ⊎_elim
      (λ (left : IsIn m (filter_map (λ k. option_map left_of (equality_in g.type_of k)) g.conjuncts)).
      let w = in_filter_map (λ k. option_map left_of (equality_in g.type_of k)) g.conjuncts m left in
      mention_of m w.0 w.1 (equality_in g.type_of w.0) refl w.2)
      (λ (right : IsIn m (filter_map (ordered_by g.type_of) g.order)).
      let w = in_filter_map (ordered_by g.type_of) g.order m right in
      mention_by m w.0 (default_family_of (g.type_of (w.0).col)) refl w.2)
      (in_parts m (filter_map (λ k. option_map left_of (equality_in g.type_of k)) g.conjuncts) (filter_map (ordered_by g.type_of) g.order) h)

  module _ (classes : List Class) (are : AreClasses g classes) (c : Class) (i : IsIn c classes) where
    pub is_class : IsClass g c
    is_class = all_at (IsClass g) classes are.each c i

    -- the family of a class takes the types of its columns
    pub member_takes : (x : ColRef) → IsIn x c.members → takes c.family (g.type_of x) ≡ true
    member_takes x ix =
        let w = position_found (is_in c) (mentions g) (all_at (λ d. first_mention g d < length (mentions g)) classes are.none_else c i) in
        let m : Mention = w.0 in
        let parts = and_parts (is_family c.family m.family) (has_member c m.column) w.2 in
        let known : takes c.family (g.type_of m.column) ≡ true = subst (λ (f : Family). takes f (g.type_of m.column) ≡ true) (sym (family_is c.family m.family parts.0)) (mention_takes m w.1) in
        ⊎_elim
        (λ (e : Col m.column ≡ Col x). subst (Taken c.family) e known)
        (λ (h : (Taken c.family (Col m.column)) × (Taken c.family (Col x))). h.1)
        (linked_takes c.family (Col m.column) (Col x) ((is_class.joined m.column x parts.1).0 (in_member c x ix)))

    pub constant_fits : (v : Value) → IsIn v c.constants → IsOfFamily c.family v
    constant_fits v iv =
        let q = literal_stands g c v (distinct_in c.family (literals g c) v (subst (λ (vs : List Value). IsIn v vs) is_class.constants iv)) in
        let h : Suits q.equality.family q.equality.right = right_suits g.type_of q.cond q.equality q.is (all_at (IsTyped g.type_of) g.conjuncts typed q.cond q.given) in
        subst (λ (f : Family). IsOfFamily f v) (sym q.family) (subst (Suits q.equality.family) q.right h)

    -- so does some value of each column's type
    pub sample_sound : IsSound (λ x. some_value (g.type_of x)) c
    sample_sound = record { fits = λ x ix. takes_fits c.family (g.type_of x) (member_takes x ix); known = constant_fits; differ = members_differ c is_class.rising }

    sound_at : (b : ColRef → Value) → Fits g.type_of b → IsSound b c
    sound_at b fits = record { fits = λ x ix. type_fits c.family (g.type_of x) (b x) (sample_sound.fits x ix) (fits x); known = constant_fits; differ = members_differ c is_class.rising }

pub class_sound : (g : Premises) (b : ColRef → Value) (typed : All (IsTyped g.type_of) g.conjuncts) → Fits g.type_of b → (classes : List Class) → AreClasses g classes → (c : Class) → IsIn c classes → IsSound b c
class_sound g b typed fits classes are c i = sound_at g typed classes are c i b fits
