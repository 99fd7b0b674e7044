-- The groups that conjuncts make, one conjunct after another.
use Rattle.std.proofs.Common.{zero, suc, ◌≡◌, ◌+◌, ◌<◌, ℕ, Bool, List, [], ◌∷◌, length, drop, map, get_or, IsTrue, arith, ap, subst, sym, ◌∙◌, Option}
use Rattle.std.proofs.lemmas.Bool.{and_parts}
use Rattle.opfamily.specs.pg_value_value_SqlType.{SqlType}
use Rattle.pg_expr.specs.declared.operand.ColRef.{ColRef}
use Rattle.pg_expr.specs.declared.expr.Expr.{Expr}
use Rattle.pg_expr.specs.Columns.{each_column_of}
use Rattle.pg_expr.specs.Typed.{AreTyped}
use Rattle.pg_expr.specs.work.View.{cond, conds}
use Rattle.eq_classes.specs.Equality.{Equality, equality_in}
use Rattle.eq_classes.specs.work.Grouping.{Part, added, grouped}

module _ (type_of : ColRef → SqlType) (binds : ColRef → Bool) where
  -- the conjuncts that are left make all groups of those that there are, and are bound and well typed
  abbrev pub IsLeft : List Expr → List Part → List Part → Type 0
  IsLeft ks ps all = (grouped type_of (map cond ks) ps ≡ all) × IsTrue (each_column_of binds (conds ks)) × AreTyped type_of (conds ks)

  -- one conjunct more
  pub left_next : (ks : List Expr) (i : ℕ) (k : Expr) (e : Option Equality) (ps qs all : List Part) → i < length ks → k ≡ get_or ks i k → equality_in type_of (cond k) ≡ e → qs ≡ added e ps
      → IsLeft (drop i ks) ps all → IsLeft (drop (i + 1) ks) qs all
  left_next [] i k e ps qs all lt is eq step h = absurd (omega (arith, lt))
  left_next (j ∷ ks) zero k e ps qs all lt is eq step h =
      let one : 0 + 1 ≡ suc zero = omega arith in
      let next : added (equality_in type_of (cond j)) ps ≡ qs = ap (λ (x : Expr). added (equality_in type_of (cond x)) ps) (sym is) ∙ ap (λ (o : Option Equality). added o ps) eq ∙ sym step in
      subst (λ (n : ℕ). IsLeft (drop n (j ∷ ks)) qs all) (sym one)
      (ap (λ (x : List Part). grouped type_of (map cond ks) x) (sym next) ∙ h.0, (and_parts _ _ h.1).1, h.2.1)
  left_next (j ∷ ks) (suc i) k e ps qs all lt is eq step h =
      let more : suc i + 1 ≡ suc (i + 1) = omega arith in
      subst (λ (n : ℕ). IsLeft (drop n (j ∷ ks)) qs all) (sym more) (left_next ks i k e ps qs all (omega (arith, lt)) is eq step h)
