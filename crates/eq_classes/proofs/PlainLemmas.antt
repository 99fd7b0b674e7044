-- The class of a column in the family of its type, where the conjuncts are well typed.
use Rattle.std.proofs.Common.{◌≡◌, ◌+◌, ℕ, refl, sym, ap, ◌∙◌, subst, Bool, true, false, not, cond, ◌&&◌, inl, inr, List, [], ◌∷◌, All, Option, Some}
use Rattle.std.specs.List.{position_from}
use Rattle.std.proofs.lemmas.Bool.{true≢false}
use Rattle.opfamily.specs.pg_value_operators_Family.{Family}
use Rattle.opfamily.specs.pg_value_operators_Family_TheVariants as families
use Rattle.opfamily.specs.pg_value_value_SqlType.{SqlType}
use Rattle.opfamily.specs.Answers.{default_family_of, is_family, takes}
use Rattle.pg_expr.specs.declared.operand.ColRef.{ColRef}
use Rattle.pg_expr.specs.Typed.{IsTyped, type_kind}
use Rattle.eq_classes.specs.Classes.{Premises, Class, has_member, is_in, in_family, class_number, is_abs, is_plain, plain_class, AreClasses}
use Rattle.eq_classes.proofs.DefaultLemmas.{abs_is, default_some, family_kind, no_default_abs, not_abs, same_family, takes_default, takes_kind}
use Rattle.eq_classes.proofs.EqualLemmas.{family_is, family_self}
use Rattle.eq_classes.proofs.ListLemmas.{IsIn}
use Rattle.eq_classes.proofs.SoundLemmas.{member_in, member_takes}

and_alike : (a c b : Bool) → (b ≡ true → a ≡ c) → a && b ≡ c && b
and_alike a c true h = ap (λ v. v && true) (h refl)
and_alike true true false h = refl
and_alike true false false h = refl
and_alike false true false h = refl
and_alike false false false h = refl

position_agree : {A : Type 0} (p q : A → Bool) (i : ℕ) (xs : List A) → ((x : A) → IsIn x xs → p x ≡ q x) → position_from p i xs ≡ position_from q i xs
position_agree p q i [] h = refl
position_agree p q i (x ∷ xs) h =
    ap (λ (v : Bool). cond v (Some i) (position_from p (i + 1) xs)) (h x (inl refl))
    ∙ ap (λ (o : Option ℕ). cond (q x) (Some i) o) (position_agree p q (i + 1) xs (λ y j. h y (inr j)))

-- of the families that take a type each but that of absolute values is its default one
plain_family : (k f : Family) (t : SqlType) → takes k t ≡ true → default_family_of t ≡ Some f → not (is_abs k) ≡ is_family k f
plain_family k f t h default = by (is_abs k) refl (is_family k f) refl
  where
    by : (a : Bool) → is_abs k ≡ a → (b : Bool) → is_family k f ≡ b → not a ≡ b
    by true e true d = absurd (no_default_abs t (subst (λ (l : Family). default_family_of t ≡ Some l) (sym (family_is k f d) ∙ abs_is k e) default))
    by true e false d = refl
    by false e true d = refl
    by false e false d =
        let same = same_family k f (takes_default k t h (not_abs k e)) default in
        absurd (true≢false (sym (subst (λ (l : Family). is_family k l ≡ true) same (family_self k)) ∙ d))

module _ (g : Premises) (typed : All (IsTyped g.type_of) g.conjuncts) (classes : List Class) (are : AreClasses g classes) where
  -- a column of a class of another family than that of absolute values has a type whose default family is the class's
  pub member_default : (c : Class) → IsIn c classes → (x : ColRef) → IsIn x c.members → (c.family ≡ families.IntAbs → ⊥) → default_family_of (g.type_of x) ≡ Some c.family
  member_default c i x ix other = takes_default c.family (g.type_of x) (member_takes g typed classes are c i x ix) other

  -- a column of a class of absolute values has an integer type
  pub member_integer : (c : Class) → IsIn c classes → (x : ColRef) → IsIn x c.members → c.family ≡ families.IntAbs → type_kind (g.type_of x) ≡ 0
  member_integer c i x ix is = takes_kind c.family (g.type_of x) (member_takes g typed classes are c i x ix) ∙ ap family_kind is

  -- the class of a column in the family of its type is that in its default family
  pub plain_class_is : (x : ColRef) (f : Family) → default_family_of (g.type_of x) ≡ Some f → plain_class classes x ≡ class_number classes (in_family x f)
  plain_class_is x f default = position_agree (is_plain x) (λ c. is_in c (in_family x f)) 0 classes
      (λ c i. and_alike (not (is_abs c.family)) (is_family c.family f) (has_member c x)
      (λ has. plain_family c.family f (g.type_of x) (member_takes g typed classes are c i x (member_in c x has)) default))

  -- and each type has one
  pub plain_class_default : (x : ColRef) (n : ℕ) → plain_class classes x ≡ Some n → (f : Family) × (default_family_of (g.type_of x) ≡ Some f) × (class_number classes (in_family x f) ≡ Some n)
  plain_class_default x n h = let d = default_some (g.type_of x) in (d.0, d.1, sym (plain_class_is x d.0 d.1) ∙ h)
