-- The clauses of conjuncts and an ORDER BY are well typed where the conjuncts are, and have few atoms.
use Rattle.std.proofs.Common.{◌≡◌, ◌≤◌, ℕ, ◌&&◌, is_some, Bool, true, false, ⊎_elim, List, All, refl, sym, ◌∙◌, arith}
use Rattle.std.proofs.lemmas.Bool.{cases_Bool, true≢false}
use Rattle.opfamily.specs.pg_value_operators_Family.{Family}
use Rattle.opfamily.specs.pg_value_operators_Family_TheVariants as families
use Rattle.opfamily.specs.pg_value_operators_Op.{Op}
use Rattle.opfamily.specs.pg_value_value_SqlType.{SqlType}
use Rattle.opfamily.specs.pg_value_value_Value.{Value}
use Rattle.opfamily.specs.pg_value_value_Value_TheVariants.{Null, Int, Bool as Flag, Text as String}
use Rattle.opfamily.specs.pg_value_work_Order.{IsOfFamily}
use Rattle.opfamily.specs.pg_value_Truths.{AreComparable, HasOp, IsSameKind, is_absolute}
use Rattle.pg_expr.specs.declared.operand.ColRef.{ColRef}
use Rattle.pg_expr.specs.declared.operand.Operand.{Operand}
use Rattle.pg_expr.specs.declared.operand.Operand.TheVariants.{Col, Lit}
use Rattle.pg_expr.specs.Cond.{Cond, compare, is_null, is_not_null, bool_col, const, all_of, any_of, negation}
use Rattle.pg_expr.specs.Columns.{atom_count}
use Rattle.pg_expr.specs.Typed.{IsComparison, IsTyped, some_value, type_kind}
use Rattle.eq_classes.specs.Equality.{equality_family, equality_of, is_column, as_clause}
use Rattle.eq_classes.specs.Classes.{Premises, Class, AreClasses}
use Rattle.eq_classes.specs.Clauses.{Clause, clause_list, equals, equals_constant}
use Rattle.eq_classes.proofs.ListLemmas.{IsIn, all_at}
use Rattle.eq_classes.proofs.ClassHoldLemmas.{IsSound}
use Rattle.eq_classes.proofs.ColumnLemmas.{each_clause}
use Rattle.eq_classes.proofs.DefaultLemmas.{family_kind, takes_kind}
use Rattle.eq_classes.proofs.SoundLemmas.{member_takes, sample_sound}

-- some value of each column's type
abbrev sample : (ColRef → SqlType) → ColRef → Value
sample type_of x = some_value (type_of x)

-- the equality of a family is defined on its values
has_equality : (f : Family) (v : Value) → IsOfFamily f v → HasOp (equality_of f) v
has_equality f Null p = tt
has_equality f (Int n) p = tt
has_equality families.IntAbs v p = absurd p
has_equality f v p = refl

-- and they are of one kind
one_kind : (f : Family) (v w : Value) → IsOfFamily f v → IsOfFamily f w → IsSameKind v w
one_kind f Null w p q = tt
one_kind f (Int m) Null p q = tt
one_kind f (Int m) (Int n) p q = tt
one_kind f (Flag m) Null p q = tt
one_kind f (Flag m) (Flag n) p q = tt
one_kind f (String m) Null p q = tt
one_kind f (String m) (String n) p q = tt
one_kind families.Text (Int m) w p q = absurd p
one_kind families.Bool (Int m) w p q = absurd p
one_kind families.Uuid (Int m) w p q = absurd p
one_kind f (Int m) w p q = absurd q
one_kind families.Bool (Flag m) w p q = absurd q
one_kind f (Flag m) w p q = absurd p
one_kind families.Text (String m) w p q = absurd q
one_kind families.Uuid (String m) w p q = absurd q
one_kind f (String m) w p q = absurd p

-- values of one family may stand at the sides of its equality
family_comparable : (f : Family) (v w : Value) → IsOfFamily f v → IsOfFamily f w → AreComparable (equality_of f) v w
family_comparable f v w p q = (has_equality f v p, has_equality f w q, one_kind f v w p q)

-- a family whose equality is by absolute value takes integer types
absolute_kind : (f : Family) → is_absolute (equality_of f) ≡ true → family_kind f ≡ 0
absolute_kind families.IntAbs h = refl
absolute_kind f h = absurd (true≢false (sym h))

as_clause_typed : (type_of : ColRef → SqlType) (k : Cond) → IsTyped type_of k → IsTyped type_of (as_clause type_of k)
as_clause_typed type_of (compare op (Col c) (Col d)) h = ⊎_elim
    (λ (t : is_column c d && is_some (equality_family op (type_of c)) ≡ true). rw t tt)
    (λ (t : is_column c d && is_some (equality_family op (type_of c)) ≡ false). rw t h)
    (cases_Bool (is_column c d && is_some (equality_family op (type_of c))))
as_clause_typed type_of (compare op (Col c) (Lit v)) h = h
as_clause_typed type_of (compare op (Lit v) r) h = h
as_clause_typed type_of (is_null c) h = h
as_clause_typed type_of (is_not_null c) h = h
as_clause_typed type_of (bool_col c) h = h
as_clause_typed type_of (const t) h = h
as_clause_typed type_of (all_of cs) h = h
as_clause_typed type_of (any_of cs) h = h
as_clause_typed type_of (negation c) h = h

module _ (g : Premises) (typed : All (IsTyped g.type_of) g.conjuncts) (classes : List Class) (are : AreClasses g classes) where
  sound : (c : Class) → IsIn c classes → IsSound (sample g.type_of) c
  sound c i = sample_sound g typed classes are c i

  kind_at : (c : Class) (i : IsIn c classes) (x : ColRef) → IsIn x c.members → type_kind (g.type_of x) ≡ family_kind c.family
  kind_at c i x ix = takes_kind c.family (g.type_of x) (member_takes g typed classes are c i x ix)

  pub clause_typed : (k : Clause) → IsIn k (clause_list g.type_of g.conjuncts classes) → IsTyped g.type_of k.cond
  clause_typed = each_clause g.type_of g.conjuncts classes (IsTyped g.type_of)
      (λ k i. as_clause_typed g.type_of k (all_at (IsTyped g.type_of) g.conjuncts typed k i))
      (λ c i x y ix iy. record {
        comparable = family_comparable c.family (sample g.type_of x) (sample g.type_of y) ((sound c i).fits x ix) ((sound c i).fits y iy);
        alike = kind_at c i x ix ∙ sym (kind_at c i y iy);
        integers = λ is. (kind_at c i x ix ∙ absolute_kind c.family is, kind_at c i y iy ∙ absolute_kind c.family is);
      })
      (λ c i x v ix iv. record {
        comparable = family_comparable c.family (sample g.type_of x) v ((sound c i).fits x ix) ((sound c i).known v iv);
        alike = tt;
        integers = λ is. (kind_at c i x ix ∙ absolute_kind c.family is, tt);
      })

as_clause_atoms : (type_of : ColRef → SqlType) (k : Cond) → atom_count (as_clause type_of k) ≡ atom_count k
as_clause_atoms type_of (compare op (Col c) (Col d)) = ⊎_elim
    (λ (t : is_column c d && is_some (equality_family op (type_of c)) ≡ true). rw t refl)
    (λ (t : is_column c d && is_some (equality_family op (type_of c)) ≡ false). rw t refl)
    (cases_Bool (is_column c d && is_some (equality_family op (type_of c))))
as_clause_atoms type_of (compare op (Col c) (Lit v)) = refl
as_clause_atoms type_of (compare op (Lit v) r) = refl
as_clause_atoms type_of (is_null c) = refl
as_clause_atoms type_of (is_not_null c) = refl
as_clause_atoms type_of (bool_col c) = refl
as_clause_atoms type_of (const t) = refl
as_clause_atoms type_of (all_of cs) = refl
as_clause_atoms type_of (any_of cs) = refl
as_clause_atoms type_of (negation c) = refl

-- no clause has more atoms than a conjunct may have, which is one at least
pub clause_atoms : (g : Premises) (classes : List Class) (most : ℕ) → 1 ≤ most → All (λ k. atom_count k ≤ most) g.conjuncts → (k : Clause) → IsIn k (clause_list g.type_of g.conjuncts classes) → atom_count k.cond ≤ most
clause_atoms g classes most some few = each_clause g.type_of g.conjuncts classes (λ e. atom_count e ≤ most)
    (λ k i. (let same = as_clause_atoms g.type_of k in let here = all_at (λ (e : Cond). atom_count e ≤ most) g.conjuncts few k i in omega (arith, same, here)))
    (λ c i x y ix iy. some)
    (λ c i x v ix iv. some)
