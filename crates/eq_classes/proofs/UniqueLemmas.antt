-- Premises conjuncts and an ORDER BY have one table.
use Rattle.std.proofs.Common.{◌≡◌, ◌<◌, Bool, true, ◌&&◌, ◌⊎◌, inl, inr, ⊎_elim, List, [], ◌∷◌, length, nat_eq, nat_lt, refl, sym, ap, ◌∙◌, subst, arith}
use Rattle.std.specs.List.{list_any}
use Rattle.std.proofs.lemmas.Bool.{and_parts, or_cases, ltb-true, eqb-true}
use Rattle.opfamily.specs.pg_value_operators_Family.{Family}
use Rattle.opfamily.specs.pg_value_value_Value.{Value}
use Rattle.pg_expr.specs.declared.operand.ColRef.{ColRef}
use Rattle.pg_expr.specs.declared.operand.Operand.TheVariants.{Col}
use Rattle.pg_expr.specs.Pushed.{is_lower}
use Rattle.opfamily.specs.Answers.{is_family}
use Rattle.eq_classes.specs.Classes.{Premises, Linked, Class, has_member, Mention, is_in, mentions, first_mention, IsClass, AreClasses}
use Rattle.eq_classes.specs.Clauses.{Clause, clause_list, ClassTable}
use Rattle.eq_classes.specs.Holding.{IsClassTable}
use Rattle.eq_classes.proofs.ListLemmas.{IsIn, Before, all_at, pairs_at, any_at}
use Rattle.eq_classes.proofs.EqualLemmas.{family_is}
use Rattle.eq_classes.proofs.SoundLemmas.{member_in, in_member, position_found}

module _ {A : Type 0} (R : A → A → Type 0) (one_way : (x y : A) → R x y → R y x → ⊥) where
  -- lists that rise and have the same elements are one
  pub same_rising : (xs ys : List A) → ((x y : A) → Before x y xs → R x y) → ((x y : A) → Before x y ys → R x y) → ((z : A) → IsIn z xs → IsIn z ys) → ((z : A) → IsIn z ys → IsIn z xs) → xs ≡ ys
  same_rising [] [] p q to from = refl
  same_rising [] (y ∷ ys) p q to from = absurd (from y (inl refl))
  same_rising (x ∷ xs) [] p q to from = absurd (to x (inl refl))
  same_rising (x ∷ xs) (y ∷ ys) p q to from =
      let first : x ≡ y = ⊎_elim
      (λ (e : x ≡ y). e)
      (λ (h : IsIn x ys). ⊎_elim (λ (e : y ≡ x). sym e) (λ (h' : IsIn y xs). absurd (one_way x y (p x y (inl (refl, h'))) (q y x (inl (refl, h))))) (from y (inl refl)))
      (to x (inl refl)) in
      let rest : xs ≡ ys = same_rising xs ys (λ a b h. p a b (inr h)) (λ a b h. q a b (inr h))
      (λ z h. ⊎_elim (λ (e : z ≡ y). let r : R x z = p x z (inl (refl, h)) in let r' : R z z = subst (λ (a : A). R a z) (first ∙ sym e) r in absurd (one_way z z r' r')) (λ (h' : IsIn z ys). h') (to z (inr h)))
      (λ z h. ⊎_elim (λ (e : z ≡ x). let r : R y z = q y z (inl (refl, h)) in let r' : R z z = subst (λ (a : A). R a z) (sym first ∙ sym e) r in absurd (one_way z z r' r')) (λ (h' : IsIn z xs). h') (from z (inr h))) in
      ap (λ (a : A). a ∷ xs) first ∙ ap (λ (as' : List A). y ∷ as') rest

pub lower_cases : (x y : ColRef) → is_lower x y ≡ true → (x.rel.0 < y.rel.0) ⊎ ((x.rel.0 ≡ y.rel.0) × (x.col.0 < y.col.0))
lower_cases x y h = ⊎_elim
    (λ (t : nat_lt x.rel.0 y.rel.0 ≡ true). inl (ltb-true x.rel.0 y.rel.0 t))
    (λ (t : nat_eq x.rel.0 y.rel.0 && nat_lt x.col.0 y.col.0 ≡ true). let parts = and_parts (nat_eq x.rel.0 y.rel.0) (nat_lt x.col.0 y.col.0) t in inr (eqb-true x.rel.0 y.rel.0 parts.0, ltb-true x.col.0 y.col.0 parts.1))
    (or_cases (nat_lt x.rel.0 y.rel.0) (nat_eq x.rel.0 y.rel.0 && nat_lt x.col.0 y.col.0) h)

pub lower_one_way : (x y : ColRef) → is_lower x y ≡ true → is_lower y x ≡ true → ⊥
lower_one_way x y p q = ⊎_elim
    (λ (a : x.rel.0 < y.rel.0). ⊎_elim (λ (b : y.rel.0 < x.rel.0). omega (arith, a, b)) (λ (b : (y.rel.0 ≡ x.rel.0) × (y.col.0 < x.col.0)). omega (arith, a, b.0)) (lower_cases y x q))
    (λ (a : (x.rel.0 ≡ y.rel.0) × (x.col.0 < y.col.0)). ⊎_elim (λ (b : y.rel.0 < x.rel.0). omega (arith, a.0, b)) (λ (b : (y.rel.0 ≡ x.rel.0) × (y.col.0 < x.col.0)). omega (arith, a.1, b.1)) (lower_cases y x q))
    (lower_cases x y p)

abbrev made : Family → List ColRef → List Value → Bool → Bool → Class
made f members constants descending nulls_first = record { family = f; members = members; constants = constants; descending = descending; nulls_first = nulls_first }

-- a class is its family and its members
same_made : (g : Premises) (f : Family) (m : List ColRef) (k k' : List Value) (d d' n n' : Bool) → IsClass g (made f m k d n) → IsClass g (made f m k' d' n') → made f m k d n ≡ made f m k' d' n'
same_made g f m k k' d d' n n' p q =
    let constants : k ≡ k' = p.constants ∙ sym q.constants in
    let both : (d, n) ≡ (d', n') = p.direction ∙ sym q.direction in
    ap (λ (a : List Value). made f m a d n) constants ∙ ap (λ (a : Bool × Bool). made f m k' a.0 a.1) both

same_class : (g : Premises) (c d : Class) → IsClass g c → IsClass g d → c.family ≡ d.family → c.members ≡ d.members → c ≡ d
same_class g c d p q family members =
    let moved : made c.family c.members d.constants d.descending d.nulls_first ≡ d = ap (λ (f : Family). made f c.members d.constants d.descending d.nulls_first) family ∙ ap (λ (m : List ColRef). made d.family m d.constants d.descending d.nulls_first) members in
    same_made g c.family c.members c.constants d.constants c.descending d.descending c.nulls_first d.nulls_first p (subst (IsClass g) (sym moved) q) ∙ moved

abbrev table_of : List Clause → List Class → ClassTable
table_of ks cs = record { clauses = ks; classes = cs }

module _ (g : Premises) where
  half : (c d : Class) → IsClass g c → IsClass g d → c.family ≡ d.family → (y : ColRef) → has_member c y ≡ true → has_member d y ≡ true → (x : ColRef) → IsIn x c.members → IsIn x d.members
  half c d p q family y hc hd x ix =
      member_in d x ((q.joined y x hd).1 (subst (λ (f : Family). Linked g f (Col y) (Col x)) family ((p.joined y x hc).0 (in_member c x ix))))

  pub meeting : (c d : Class) → IsClass g c → IsClass g d → c.family ≡ d.family → (y : ColRef) → has_member c y ≡ true → has_member d y ≡ true → c ≡ d
  meeting c d p q family y hc hd = same_class g c d p q family
      (same_rising (λ u v. is_lower u v ≡ true) lower_one_way c.members d.members (pairs_at (λ u v. is_lower u v ≡ true) c.members p.rising) (pairs_at (λ u v. is_lower u v ≡ true) d.members q.rising)
      (half c d p q family y hc hd) (half d c q p (sym family) y hd hc))

  found_in_other : (cs ds : List Class) → AreClasses g cs → AreClasses g ds → (c : Class) → IsIn c cs → IsIn c ds
  found_in_other cs ds are are' c i =
      let w = position_found (is_in c) (mentions g) (all_at (λ e. first_mention g e < length (mentions g)) cs are.none_else c i) in
      let m : Mention = w.0 in
      let v = any_at (λ e. is_in e m) ds (all_at (λ n. list_any (λ e. is_in e n) ds ≡ true) (mentions g) are'.every m w.1) in
      let d : Class = v.0 in
      let left = and_parts (is_family c.family m.family) (has_member c m.column) w.2 in
      let right = and_parts (is_family d.family m.family) (has_member d m.column) v.2 in
      let same : c ≡ d = meeting c d (all_at (IsClass g) cs are.each c i) (all_at (IsClass g) ds are'.each d v.1) (family_is c.family m.family left.0 ∙ sym (family_is d.family m.family right.0)) m.column left.1 right.1 in
      subst (λ (e : Class). IsIn e ds) (sym same) v.1

  pub classes_one : (cs ds : List Class) → AreClasses g cs → AreClasses g ds → cs ≡ ds
  classes_one cs ds are are' =
      same_rising (λ c d. first_mention g c < first_mention g d) (λ c d p q. omega (arith, p, q)) cs ds
      (pairs_at (λ c d. first_mention g c < first_mention g d) cs are.numbered) (pairs_at (λ c d. first_mention g c < first_mention g d) ds are'.numbered)
      (found_in_other cs ds are are') (found_in_other ds cs are' are)

  pub table_one : (t u : ClassTable) → IsClassTable g t → IsClassTable g u → t ≡ u
  table_one t u p q =
      let classes : t.classes ≡ u.classes = classes_one t.classes u.classes p.classes q.classes in
      let listed : t.clauses ≡ u.clauses = p.clauses ∙ ap (clause_list g.type_of g.conjuncts) classes ∙ sym q.clauses in
      ap (λ (ks : List Clause). table_of ks t.classes) listed ∙ ap (table_of u.clauses) classes
