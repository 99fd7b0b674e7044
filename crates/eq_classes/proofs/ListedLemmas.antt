-- The entries that are made of conjuncts and an ORDER BY are few, and name relations below 16.
use Rattle.std.proofs.Common.{◌≡◌, ℕ, ◌<◌, ◌≤◌, ◌^◌, Bool, true, ◌&&◌, inl, inr, ⊎_elim, List, [], ◌∷◌, ◌++◌, length, map, All, nat_lt, refl, sym, ap, ◌∙◌, subst, arith}
use Rattle.std.proofs.lemmas.Bool.{and_parts, lt-ltb, ltb-true}
use Rattle.opfamily.specs.pg_value_value_SqlType.{SqlType}
use Rattle.pg_expr.specs.declared.operand.ColRef.{ColRef}
use Rattle.pg_expr.specs.declared.expr.Expr.{Expr}
use Rattle.pg_expr.specs.Cond.{Cond}
use Rattle.pg_expr.specs.Columns.{each_column_of}
use Rattle.pg_expr.specs.work.Columns.{rels_below}
use Rattle.pg_expr.specs.work.View as view
use Rattle.eq_classes.specs.declared.order.OrderItem.{OrderItem}
use Rattle.eq_classes.specs.declared.clauses.Listed.{Listed}
use Rattle.eq_classes.specs.Classes.{Class, AreClasses}
use Rattle.eq_classes.specs.Clauses.{Clause, conjunct_clauses, clauses_from, clause_list}
use Rattle.eq_classes.specs.work.Building.{given}
use Rattle.eq_classes.specs.work.Listing.{clause_of, clauses_of}
use Rattle.eq_classes.proofs.ListLemmas.{IsIn, all_at, all_from}
use Rattle.eq_classes.proofs.HoldLemmas.{map_in}
use Rattle.eq_classes.proofs.SearchLemmas.{same_length}
use Rattle.eq_classes.proofs.ColumnLemmas.{member_passes, clause_passes}
use Rattle.eq_classes.proofs.NamedLemmas.{clauses_length}
use Rattle.eq_classes.proofs.FewLemmas.{few_clauses}
use Rattle.eq_classes.proofs.WideLemmas.{classes_few}

-- a column of a relation below 16
abbrev is_near : ColRef → Bool
is_near c = nat_lt c.rel.0 16

each_near : (es : List Expr) → each_column_of (λ c. nat_lt c.rel.0 16) (view.conds es) ≡ true → (k : Cond) → IsIn k (map view.cond es) → rels_below 16 k ≡ true
each_near [] h k i = absurd i
each_near (e ∷ es) h k i =
    let parts = and_parts (rels_below 16 (view.cond e)) (each_column_of (λ c. nat_lt c.rel.0 16) (view.conds es)) h in
    ⊎_elim (λ (s : k ≡ view.cond e). ap (rels_below 16) s ∙ parts.0) (λ (j : IsIn k (map view.cond es)). each_near es parts.1 k j) i

-- entries made of the conjuncts and then of the classes
pub listed_is : (cs d d' : List Class) (start middle last : List Listed) (own : List Clause) → d ≡ cs → d' ≡ cs → start ≡ [] → clauses_of d middle ≡ clauses_of d start ++ own → clauses_of d' last ≡ clauses_of d' middle ++ clauses_from 0 d' → clauses_of cs last ≡ own ++ clauses_from 0 cs
listed_is cs d d' start middle last own e e' none m l =
    let m' : clauses_of cs middle ≡ clauses_of cs start ++ own = subst (λ (x : List Class). clauses_of x middle ≡ clauses_of x start ++ own) e m in
    let l' : clauses_of cs last ≡ clauses_of cs middle ++ clauses_from 0 cs = subst (λ (x : List Class). clauses_of x last ≡ clauses_of x middle ++ clauses_from 0 x) e' l in
    l' ∙ ap (λ (x : List Clause). x ++ clauses_from 0 cs) (m' ∙ ap (λ (x : List Listed). clauses_of cs x ++ own) none)

module _ (type_of : ColRef → SqlType) (es : List Expr) (order : List OrderItem) (near : each_column_of (λ c. nat_lt c.rel.0 16) (view.conds es) ≡ true) (items : All (λ i. i.col.rel.0 < 16) order)
    (classes : List Class) (are : AreClasses (given type_of es order) classes) (listed : List Listed) (is : clauses_of classes listed ≡ clause_list type_of (map view.cond es) classes) where
  item_near : (i : OrderItem) → IsIn i order → is_near i.col ≡ true
  item_near i h = lt-ltb i.col.rel.0 16 (all_at (λ (j : OrderItem). j.col.rel.0 < 16) order items i h)

  pub listed_near : All (λ k. rels_below 16 (view.cond k.expr) ≡ true) listed
  listed_near = all_from (λ k. rels_below 16 (view.cond k.expr) ≡ true) listed (λ k i.
      clause_passes is_near (given type_of es order) (each_near es near) item_near classes are (clause_of classes k) (subst (λ (l : List Clause). IsIn (clause_of classes k) l) is (map_in (clause_of classes) listed k i)))

  pub listed_few : length es ≤ 32 → length listed ≤ 512
  listed_few few =
      let n = same_length es in
      let h = few_clauses (given type_of es order) classes are (λ c i x ix. ltb-true x.rel.0 16 (member_passes is_near (given type_of es order) (each_near es near) item_near classes are c i x ix)) (omega (arith, few, n)) in
      let e : length (clauses_of classes listed) ≡ length (clause_list type_of (map view.cond es) classes) = ap length is in
      let m = clauses_length classes listed in
      omega (arith, h, e, m)

pub classes_low : (type_of : ColRef → SqlType) (es : List Expr) (order : List OrderItem) → All (λ i. i.col.rel.0 < 16) order → All (λ i. i.col.col.0 < 256) order → (classes : List Class) → AreClasses (given type_of es order) classes → length es ≤ 32 → length classes < 2 ^ 16
classes_low type_of es order near narrow classes are few =
    let n = same_length es in
    let h = classes_few (given type_of es order) classes are (all_at (λ (i : OrderItem). i.col.rel.0 < 16) order near) (all_at (λ (i : OrderItem). i.col.col.0 < 256) order narrow) in
    omega (arith, h, n, few)
