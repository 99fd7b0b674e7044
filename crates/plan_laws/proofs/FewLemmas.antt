-- The clauses of a well bound query are few, and each has few atoms.
use Rattle.std.proofs.Common.{◌≡◌, ◌≤◌, ◌<◌, ℕ, Bool, true, nat_lt, List, [], ◌∷◌, length, All, arith, subst, ⊎_elim, ap, Contains}
use Rattle.std.proofs.lemmas.Bool.{lt-ltb, ltb-true}
use Rattle.pg_base.specs.declared.limits.TheConstants.{MOST_ATOMS}
use Rattle.pg_expr.specs.declared.operand.ColRef.{ColRef}
use Rattle.pg_expr.specs.Columns.{atom_count, atom_count_of, each_column}
use Rattle.pg_expr.specs.Cond.{Cond, conds_of}
use Rattle.sql_query.specs.catalog_Contents.{Contents}
use Rattle.eq_classes.specs.declared.order.OrderItem.{OrderItem}
use Rattle.eq_classes.specs.Classes.{Class}
use Rattle.eq_classes.specs.Clauses.{Clause}
use Rattle.eq_classes.proofs.ColumnLemmas.{member_passes}
use Rattle.eq_classes.proofs.FewLemmas.{few_clauses}
use Rattle.eq_classes.proofs.ListLemmas.{IsIn, all_at, all_from, in_from_contains}
use Rattle.eq_classes.proofs.TypedLemmas.{clause_atoms}
use Rattle.eq_classes.proofs.WrittenLemmas.{in_atoms, in_columns}
use Rattle.sql_query.specs.Queries.{Query}
use Rattle.sql_query.specs.WellBound.{given_with, IsColumnOf, IsWellBound}
use Rattle.plan_laws.proofs.OverLemmas.{conditions_pass}

-- a condition has no more atoms than its list
of_list : (es : List Cond) (e : Cond) → IsIn e es → atom_count e ≤ atom_count_of (conds_of es)
of_list [] e i = absurd i
of_list (x ∷ xs) e i = ⊎_elim
    (λ (s : e ≡ x). let same = ap atom_count s in omega (arith, same))
    (λ (later : IsIn e xs). let rest = of_list xs e later in omega (arith, rest))
    i

-- a column of a relation below 16
abbrev is_near : ColRef → Bool
is_near x = nat_lt x.rel.0 16

module _ (c : Contents) (q : Query) (is : IsWellBound c q) where
  used_near : (x : ColRef) → IsIn x q.used → is_near x ≡ true
  used_near x i = let of = (all_at (IsColumnOf c q.range) q.used is.used x i).relation in lt-ltb x.rel.0 16 (omega (arith, of, is.range.few))

  items_near : (i : OrderItem) → IsIn i is.items → is_near i.col ≡ true
  items_near i at = used_near i.col (in_from_contains q.used i.col (all_at (λ (o : OrderItem). Contains q.used o.col) is.items is.named i at))

  members_near : (k : Class) → IsIn k q.classes.classes → (x : ColRef) → IsIn x k.members → x.rel.0 < 16
  members_near k i x ix =
      let g = given_with c q is.items in
      let passed : All (λ e. each_column is_near e ≡ true) g.conjuncts = in_columns q.where_all is_near (conditions_pass c q is is_near used_near) in
      ltb-true x.rel.0 16 (member_passes is_near g (all_at (λ (e : Cond). each_column is_near e ≡ true) g.conjuncts passed) items_near q.classes.classes is.classes.classes k i x ix)

  pub clauses_few : length q.classes.clauses ≤ 512
  clauses_few =
      let few = few_clauses (given_with c q is.items) q.classes.classes is.classes.classes members_near is.limits.conjuncts in
      let same = ap length is.classes.clauses in
      omega (arith, few, same)

  pub atoms_few : All (λ (k : Clause). atom_count k.cond ≤ MOST_ATOMS) q.classes.clauses
  atoms_few =
      let g = given_with c q is.items in
      let each : All (λ w. atom_count w ≤ MOST_ATOMS) q.where_all = all_from (λ (w : Cond). atom_count w ≤ MOST_ATOMS) q.where_all (λ w i. (let part = of_list q.where_all w i in omega (arith, part, is.limits.atoms))) in
      all_from (λ (k : Clause). atom_count k.cond ≤ MOST_ATOMS) q.classes.clauses
      (λ k i. clause_atoms g q.classes.classes MOST_ATOMS (omega arith) (in_atoms q.where_all MOST_ATOMS each) k (subst (IsIn k) is.classes.clauses i))
