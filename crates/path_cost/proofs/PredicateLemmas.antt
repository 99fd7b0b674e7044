-- The predicate of an index is a condition over its table, as relation 0.
use Rattle.std.proofs.Common.{◌≡◌, ◌∙◌, ℕ, zero, suc, Bool, List, [], ◌∷◌, refl, sym, ap, subst, arith, length, IsTrue, Some, slice_index_or, nat_eq, nat_lt, ◌&&◌}
use Rattle.std.proofs.lemmas.Bool.{and_parts}
use Rattle.std.proofs.lemmas.Grind.{common_steps}
use Rattle.pg_base.specs.declared.numbers.IndexNo.{IndexNo}
use Rattle.pg_base.specs.declared.numbers.TableNo.{TableNo}
use Rattle.pg_value.specs.declared.value.SqlType.{SqlType}
use Rattle.pg_value.specs.Truths.{AreComparable}
use Rattle.pg_expr.specs.declared.operand.ColRef.{ColRef}
use Rattle.pg_expr.specs.declared.operand.Operand.{Operand}
use Rattle.pg_expr.specs.declared.operand.Operand.TheVariants.{Col, Lit}
use Rattle.pg_expr.specs.Cond.{Cond, compare, is_null, is_not_null, bool_col, const, all_of, any_of, negation, Conds, no_conds, cond_and}
use Rattle.pg_expr.specs.Columns.{each_column, each_column_of, passes_column}
use Rattle.pg_expr.specs.Truths.{value_of}
use Rattle.pg_expr.specs.Typed.{AreAlike, AreTyped, IsInteger, IsTyped, some_value, type_kind}
use Rattle.catalog.specs.Contents.{Contents, IsIndex, IsLawful, index_at, no_index, table_at}
use Rattle.catalog.specs.Indexes.{Index, IsConditionOf, IsPredicateOf, type_at}
use Rattle.pg_expr.proofs.ColumnLaws.{weaker-each}
use Rattle.catalog.specs.Range.{type_in}
use Rattle.path_cost.specs.work.Columns.{is_column_in}

-- a condition whose columns have the same types is as well typed
module _ (test : ColRef → Bool) (t u : ColRef → SqlType) (agree : (x : ColRef) → IsTrue (test x) → t x ≡ u x) where
  agree-side : (o : Operand) → IsTrue (passes_column test o) → value_of (λ x. some_value (t x)) o ≡ value_of (λ x. some_value (u x)) o
  agree-side (Col x) h = ap some_value (agree x h)
  agree-side (Lit v) h = refl

  agree-alike : (l r : Operand) → IsTrue (passes_column test l) → IsTrue (passes_column test r) → AreAlike t l r → AreAlike u l r
  agree-alike (Col x) (Col y) h k same = ap type_kind (sym (agree x h)) ∙ same ∙ ap type_kind (agree y k)
  agree-alike (Col x) (Lit v) h k same = tt
  agree-alike (Lit v) r h k same = tt

  agree-integer : (o : Operand) → IsTrue (passes_column test o) → IsInteger t o → IsInteger u o
  agree-integer (Col x) h is = ap type_kind (sym (agree x h)) ∙ is
  agree-integer (Lit v) h is = tt

  mutual
    agree-typed : (e : Cond) → IsTrue (each_column test e) → IsTyped t e → IsTyped u e
    agree-typed (compare op l r) h d =
        let sides = and_parts (passes_column test l) (passes_column test r) h in
        record {
          comparable =
              subst (λ a. AreComparable op a (value_of (λ x. some_value (u x)) r)) (agree-side l sides.0)
              (subst (λ b. AreComparable op (value_of (λ x. some_value (t x)) l) b) (agree-side r sides.1) d.comparable);
          alike = agree-alike l r sides.0 sides.1 d.alike;
          integers = λ is. (agree-integer l sides.0 (d.integers is).0, agree-integer r sides.1 (d.integers is).1);
        }
    agree-typed (is_null x) h d = tt
    agree-typed (is_not_null x) h d = tt
    agree-typed (bool_col x) h d = sym (agree x h) ∙ d
    agree-typed (const b) h d = tt
    agree-typed (all_of es) h d = agree-all es h d
    agree-typed (any_of es) h d = agree-all es h d
    agree-typed (negation e) h d = agree-typed e h d

    agree-all : (es : Conds) → IsTrue (each_column_of test es) → AreTyped t es → AreTyped u es
    agree-all no_conds h d = tt
    agree-all (cond_and e es) h d =
        let parts = and_parts (each_column test e) (each_column_of test es) h in
        (agree-typed e parts.0 d.0, agree-all es parts.1 d.1)

-- the table of relation 0
first-table : (t : TableNo) (k : ℕ) → k ≡ 0 → (slice_index_or {A = TableNo × List ℕ} ((t, []) ∷ []) k (record { 0 = 0 }, [])).0 ≡ t
first-table t zero e = refl
first-table t (suc k) e = absurd (omega (arith, e))

of-relation : (k : ℕ) (b : Bool) → IsTrue (nat_eq k 0 && b) → k ≡ 0
of-relation k b h = grind (arith, common_steps, h)

typed-alone : (c : Contents) (t : TableNo) (e : Cond) → IsConditionOf (table_at c t).columns e → IsTyped (type_in c ((t, []) ∷ [])) e
typed-alone c t e h =
    agree-typed (λ x. nat_eq x.rel.0 0 && nat_lt x.col.0 (length (table_at c t).columns)) (λ x. type_at (table_at c t).columns x.col) (type_in c ((t, []) ∷ []))
    (λ x w. ap (λ s. type_at (table_at c s).columns x.col) (sym (first-table t x.rel.0 (of-relation x.rel.0 _ w)))) e h.within h.typed

within-one : (k : ℕ) (b : Bool) → IsTrue (nat_eq k 0 && b) → IsTrue (nat_lt k 1 && b)
within-one k b h = grind (arith, common_steps, h)

columns-alone : (c : Contents) (t : TableNo) (e : Cond) → IsConditionOf (table_at c t).columns e → IsTrue (each_column (is_column_in c ((t, []) ∷ [])) e)
columns-alone c t e h =
    weaker-each (λ x. nat_eq x.rel.0 0 && nat_lt x.col.0 (length (table_at c t).columns)) (is_column_in c ((t, []) ∷ []))
    (λ x w. subst (λ (s : TableNo). IsTrue (nat_lt x.rel.0 1 && nat_lt x.col.0 (length (table_at c s).columns))) (sym (first-table t x.rel.0 (of-relation x.rel.0 _ w))) (within-one x.rel.0 _ w)) e h.within

own-condition : (c : Contents) (i : IndexNo) (x : Index) (e : Cond) → IsLawful c → IsIndex c i → x ≡ index_at c i → x.predicate ≡ Some e → IsConditionOf (table_at c x.table).columns e
own-condition c i x e h within same is =
    let own = (h.indexes i.0 no_index within).index.fits.predicate in
    let here : IsPredicateOf (table_at c x.table).columns x.predicate = subst (λ (y : Index). IsPredicateOf (table_at c y.table).columns y.predicate) (sym same) own in
    subst (IsPredicateOf (table_at c x.table).columns) is here

pub predicate_columns : (c : Contents) (i : IndexNo) (x : Index) (e : Cond) → IsLawful c → IsIndex c i → x ≡ index_at c i → x.predicate ≡ Some e → IsTrue (each_column (is_column_in c ((x.table, []) ∷ [])) e)
predicate_columns c i x e h within same is = columns-alone c x.table e (own-condition c i x e h within same is)

pub predicate_typed : (c : Contents) (i : IndexNo) (x : Index) (e : Cond) → IsLawful c → IsIndex c i → x ≡ index_at c i → x.predicate ≡ Some e → IsTyped (type_in c ((x.table, []) ∷ [])) e
predicate_typed c i x e h within same is = typed-alone c x.table e (own-condition c i x e h within same is)
