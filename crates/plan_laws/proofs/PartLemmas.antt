-- The laws of the parts, said of a table of given conjuncts.
use Rattle.std.proofs.Common.{◌≡◌, ℕ, zero, suc, ◌<◌, ◌≤◌, length, ◌⊎◌, inl, inr, ⊎_elim, Bool, true, false, ◌&&◌, List, All, AllPairs, slice_index_or, Option, Some, None, refl, sym, ap, ◌∙◌, subst, arith}
use Rattle.std.proofs.lemmas.Bool.{cases_Bool, cases_lt, and_parts}
use Rattle.pg_value.specs.declared.value.Value.{Value}
use Rattle.pg_value.specs.work.Order.{compared}
use Rattle.pg_expr.specs.declared.operand.ColRef.{ColRef}
use Rattle.pg_expr.specs.Typed.{IsTyped}
use Rattle.eq_classes.specs.Equality.{is_column, are_equal}
use Rattle.opfamily.specs.Answers.{is_family}
use Rattle.eq_classes.specs.Classes.{Premises, Class, has_member, Mention, is_in, first_mention, IsClass, AreClasses}
use Rattle.eq_classes.specs.Clauses.{Set, one, first_in, has_constant, Clause, clause_list, ClassTable}
use Rattle.eq_classes.specs.Parts.{union, is_all, is_base, is_join, is_param, is_join_param}
use Rattle.eq_classes.specs.Holding.{IsClassTable, AreApart, IsWithin}
use Rattle.eq_classes.specs.work.Holding.{hold, Fits, AgreeOn, HasClass}
use Rattle.eq_classes.specs.Listing.{class_at}
use Rattle.eq_classes.proofs.ListLemmas.{IsIn, in_at, in_from_contains, all_at, found_in, found_passes}
use Rattle.eq_classes.proofs.EqualLemmas.{column_is, family_is, equal_sym, equal_trans}
use Rattle.eq_classes.proofs.SoundLemmas.{member_in, members_differ}
use Rattle.eq_classes.proofs.WhereLemmas.{some_in}
use Rattle.eq_classes.proofs.UniqueLemmas.{meeting}
use Rattle.eq_classes.proofs.TableLemmas.{made, list_is, sound, says_at}
use Rattle.eq_classes.proofs.SplitLemmas as splits
use Rattle.plan_laws.proofs.LocalLemmas as local
use Rattle.plan_laws.proofs.AlikeLemmas.{equal_inside, compare_alike}

module _ (g : Premises) (t : ClassTable) (is : IsClassTable g t) where
  pub local_at : (set : Set) (chosen : Clause → Bool) → local.Reads set chosen (made g t.classes) → (b d : ColRef → Value) → AgreeOn set b d → hold b chosen t.clauses ≡ hold d chosen t.clauses
  local_at set chosen reads b d agree = subst (λ (ks : List Clause). hold b chosen ks ≡ hold d chosen ks) (list_is g t is) (local.hold_local set chosen (made g t.classes) reads b d agree)

  pub base_at : (b : ColRef → Value) (r : ℕ) → hold b (is_all (one r)) t.clauses ≡ hold b (is_base r) t.clauses
  base_at b r = subst (λ (ks : List Clause). hold b (is_all (one r)) ks ≡ hold b (is_base r) ks) (list_is g t is)
      (local.base_is_all g.type_of g.conjuncts t.classes (λ c i. members_differ c (all_at (IsClass g) t.classes is.classes.each c i).rising) b r)

  module _ (b : ColRef → Value) (typed : All (IsTyped g.type_of) g.conjuncts) (fits : Fits g.type_of b) where
    pub split_at : (s u : Set) → AreApart s u → hold b (is_all (union s u)) t.clauses ≡ hold b (is_all s) t.clauses && (hold b (is_all u) t.clauses && hold b (is_join s u) t.clauses)
    split_at s u apart = subst (λ (ks : List Clause). hold b (is_all (union s u)) ks ≡ hold b (is_all s) ks && (hold b (is_all u) ks && hold b (is_join s u) ks)) (list_is g t is)
        (splits.all_splits b g.type_of g.conjuncts t.classes (sound g t is b typed fits) s u apart)

    pub params_at : (s p : Set) (r : ℕ) → IsWithin p s → s r ≡ false → hold b (is_all s) t.clauses ≡ true
        → hold b (is_join s (one r)) t.clauses ≡ hold b (is_param r p) t.clauses && hold b (is_join_param s r p) t.clauses
    params_at s p r part out = subst (λ (ks : List Clause). hold b (is_all s) ks ≡ true → hold b (is_join s (one r)) ks ≡ hold b (is_param r p) ks && hold b (is_join_param s r p) ks) (list_is g t is)
        (splits.params_split b g.type_of g.conjuncts t.classes (sound g t is b typed fits) s p r part out)

    -- members of a class inside a set where its clauses hold
    members_at : (set : Set) → hold b (is_all set) t.clauses ≡ true → (c : Class) → HasClass t c → (x y : ColRef) → IsIn x c.members → IsIn y c.members → set x.rel.0 ≡ true → set y.rel.0 ≡ true → (x ≡ y) ⊎ (are_equal c.family (b x) (b y) ≡ true)
    members_at set h c has x y ix iy sx sy = ⊎_elim
        (λ (same : is_column x y ≡ true). inl (column_is x y same))
        (λ (differ : is_column x y ≡ false). inr (equal_inside c set b (says_at g t is b typed fits set h c (in_from_contains t.classes c has)) x y ix iy sx sy differ))
        (cases_Bool (is_column x y))

    pub tie_at : (set : Set) (c : Class) (x y : ColRef) → hold b (is_all set) t.clauses ≡ true → HasClass t c → has_member c x ≡ true → has_member c y ≡ true → set x.rel.0 ≡ true → set y.rel.0 ≡ true → (x ≡ y) ⊎ (are_equal c.family (b x) (b y) ≡ true)
    tie_at set c x y h has hx hy sx sy = members_at set h c has x y (member_in c x hx) (member_in c y hy) sx sy

  pub constant_at : (b d : ColRef → Value) (set : Set) (c : Class) (x : ColRef) → All (IsTyped g.type_of) g.conjuncts → Fits g.type_of b → Fits g.type_of d → hold b (is_all set) t.clauses ≡ true → hold d (is_all set) t.clauses ≡ true
      → HasClass t c → has_constant c ≡ true → has_member c x ≡ true → set x.rel.0 ≡ true → are_equal c.family (b x) (d x) ≡ true
  constant_at b d set c x typed fits fits' h h' has some hx sx =
      let i = in_from_contains t.classes c has in
      let v = some_in c.constants some in
      equal_trans c.family (b x) v.0 (d x) ((says_at g t is b typed fits set h c i).fixed some x v.0 (member_in c x hx) v.1 sx)
      (equal_sym c.family (d x) v.0 ((says_at g t is d typed fits' set h' c i).fixed some x v.0 (member_in c x hx) v.1 sx))

  pub alike_at : (b d : ColRef → Value) (part set : Set) (c : Class) (x y : ColRef) → All (IsTyped g.type_of) g.conjuncts → Fits g.type_of b → Fits g.type_of d → IsWithin part set
      → hold b (is_all set) t.clauses ≡ true → hold d (is_all set) t.clauses ≡ true → HasClass t c → first_in c part ≡ Some x → first_in c set ≡ Some y → compared c.family (b x) (d x) ≡ compared c.family (b y) (d y)
  alike_at b d part set c x y typed fits fits' inside h h' has fx fy =
      let ix = found_in (λ z. part z.rel.0) c.members x fx in
      let iy = found_in (λ z. set z.rel.0) c.members y fy in
      let sx = inside x.rel.0 (found_passes (λ z. part z.rel.0) c.members x fx) in
      let sy = found_passes (λ z. set z.rel.0) c.members y fy in
      compare_alike c.family b d x y (members_at b typed fits set h c has x y ix iy sx sy) (members_at d typed fits' set h' c has x y ix iy sx sy)

  one_class : (c d : Class) → IsIn c t.classes → IsIn d t.classes → (m : Mention) → is_in c m ≡ true → is_in d m ≡ true → c ≡ d
  one_class c d ic id m hc hd =
      let pc = and_parts (is_family c.family m.family) (has_member c m.column) hc in
      let pd = and_parts (is_family d.family m.family) (has_member d m.column) hd in
      meeting g c d (all_at (IsClass g) t.classes is.classes.each c ic) (all_at (IsClass g) t.classes is.classes.each d id) (family_is c.family m.family pc.0 ∙ sym (family_is d.family m.family pd.0)) m.column pc.1 pd.1

  not_before : (m : Mention) (k l : ℕ) → k < l → l < length t.classes → is_in (class_at t.classes k) m ≡ true → is_in (class_at t.classes l) m ≡ true → ⊥
  not_before m k l lt low hk hl =
      let c : Class = class_at t.classes k in
      let d : Class = class_at t.classes l in
      let same : c ≡ d = one_class c d (in_at t.classes k _ (omega (arith, lt, low))) (in_at t.classes l _ low) m hk hl in
      let rises : first_mention g c < first_mention g d = is.classes.numbered k l _ lt low in
      let e : first_mention g c ≡ first_mention g d = ap (first_mention g) same in
      omega (arith, rises, e)

  pub apart_at : (m : Mention) (k l : ℕ) → k < length t.classes → l < length t.classes → is_in (class_at t.classes k) m ≡ true → is_in (class_at t.classes l) m ≡ true → k ≡ l
  apart_at m k l low low' hk hl = ⊎_elim
      (λ (lt : k < l). absurd (not_before m k l lt low' hk hl))
      (λ (ge : l ≤ k). ⊎_elim
      (λ (lt : l < k). absurd (not_before m l k lt low hl hk))
      (λ (le : k ≤ l). omega (arith, ge, le))
      (cases_lt l k))
      (cases_lt k l)
