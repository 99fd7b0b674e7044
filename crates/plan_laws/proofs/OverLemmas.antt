-- The conditions and clauses of a well bound query name columns of its relations, and are well typed.
use Rattle.std.proofs.Common.{◌≡◌, Bool, true, All, Contains, subst}
use Rattle.std.proofs.lemmas.Bool.{and_from, lt-ltb}
use Rattle.pg_expr.specs.declared.operand.ColRef.{ColRef}
use Rattle.pg_expr.specs.Columns.{each_column}
use Rattle.pg_expr.specs.Cond.{Cond}
use Rattle.sql_query.specs.catalog_Contents.{Contents}
use Rattle.eq_classes.specs.declared.order.OrderItem.{OrderItem}
use Rattle.eq_classes.specs.Clauses.{Clause}
use Rattle.eq_classes.proofs.ColumnLemmas.{clause_passes}
use Rattle.eq_classes.proofs.ListLemmas.{IsIn, all_at, all_from, in_from_contains}
use Rattle.eq_classes.proofs.TypedLemmas.{clause_typed}
use Rattle.eq_classes.proofs.WrittenLemmas.{in_columns, in_typed}
use Rattle.path_cost.specs.work.Columns.{is_column_in, IsOver}
use Rattle.sql_query.specs.Queries.{Query, all_of_query}
use Rattle.sql_query.specs.WellBound.{given_with, IsColumnOf, IsWellBound, NamesOnly}

module _ (c : Contents) (q : Query) (is : IsWellBound c q) where
  pub used_is : (x : ColRef) → IsIn x q.used → is_column_in c q.range x ≡ true
  used_is x i =
      let of : IsColumnOf c q.range x = all_at (IsColumnOf c q.range) q.used is.used x i in
      and_from _ _ (lt-ltb _ _ of.relation) (lt-ltb _ _ of.column)

  -- a test that the columns of the relations pass, each condition's pass
  pub conditions_pass : (test : ColRef → Bool) → ((x : ColRef) → IsIn x q.used → test x ≡ true) → All (λ w. each_column test w ≡ true) q.where_all
  conditions_pass test pass =
      all_from (λ (w : Cond). each_column test w ≡ true) q.where_all
      (λ w i. all_at (NamesOnly q.used) q.where_all is.conditions w i test (all_from (λ x. test x ≡ true) q.used pass))

  pub conditions_inside : All (λ w. each_column (λ x. all_of_query q x.rel.0) w ≡ true) q.where_all
  conditions_inside = conditions_pass (λ x. all_of_query q x.rel.0) (λ x i. lt-ltb _ _ (all_at (IsColumnOf c q.range) q.used is.used x i).relation)

  -- the columns of the items of which its classes are made are named
  pub item_used : (i : OrderItem) → IsIn i is.items → IsIn i.col q.used
  item_used i at = in_from_contains q.used i.col (all_at (λ (o : OrderItem). Contains q.used o.col) is.items is.named i at)

  clause_over : (k : Clause) → IsIn k q.classes.clauses → IsOver c q.range k.cond
  clause_over k i =
      let g = given_with c q is.items in
      let test : ColRef → Bool = is_column_in c q.range in
      let listed = subst (IsIn k) is.classes.clauses i in
      let passed : All (λ e. each_column test e ≡ true) g.conjuncts = in_columns q.where_all test (conditions_pass test used_is) in
      record {
        columns = clause_passes test g (all_at (λ (e : Cond). each_column test e ≡ true) g.conjuncts passed) (λ i at. used_is i.col (item_used i at)) q.classes.classes is.classes.classes k listed;
        typed = clause_typed g (in_typed g.type_of q.where_all is.typed) q.classes.classes is.classes.classes k listed;
      }

  pub clauses_over : All (λ (k : Clause). IsOver c q.range k.cond) q.classes.clauses
  clauses_over = all_from (λ (k : Clause). IsOver c q.range k.cond) q.classes.clauses clause_over
