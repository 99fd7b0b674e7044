-- The columns of a key list: each is one of a relation of the set, and tuples compare by their values there as by the
-- classes.
use Rattle.std.proofs.Common.{◌≡◌, ℕ, true, ◌<◌, ◌+◌, take, get_or, List, [], ◌∷◌, ◌++◌, All, Contains, Option, Some, None, option_map, refl, sym, ap, ◌∙◌, subst, append-nil, Ordering}
use Rattle.std.specs.Prelude.{length}
use Rattle.std.specs.List.{cons_option}
use Rattle.std.specs.Ordering.{ordering_then}
use Rattle.std.proofs.lemmas.Bool.{and_from, and_parts, lt-ltb, ltb-true}
use Rattle.std.proofs.lemmas.List.{get_or_default, map-append, take_more}
use Rattle.std.proofs.lemmas.List.Elements.{filter_map-append}
use Rattle.pg_base.specs.Sets.{has}
use Rattle.pg_base.specs.declared.rel_set.RelSet.{RelSet}
use Rattle.pg_value.specs.declared.value.Value.{Value}
use Rattle.pg_expr.specs.declared.operand.ColRef.{ColRef}
use Rattle.pg_expr.specs.Columns.{each_column}
use Rattle.pg_expr.specs.Cond.{Cond}
use Rattle.sql_query.specs.catalog_Contents.{Contents}
use Rattle.eq_classes.specs.declared.order.OrderItem.{OrderItem}
use Rattle.eq_classes.specs.Classes.{Class}
use Rattle.eq_classes.specs.Clauses.{Set, ClassTable, first_in}
use Rattle.eq_classes.specs.Listing.{class_at, blank}
use Rattle.eq_classes.proofs.ColumnLemmas.{member_passes}
use Rattle.eq_classes.proofs.ListLemmas.{IsIn, all_at, all_from, found_in, found_passes, in_filter_map, in_from_contains}
use Rattle.eq_classes.proofs.WrittenLemmas.{in_columns}
use Rattle.path_cost.specs.work.Columns.{is_column_in}
use Rattle.sql_query.specs.Queries.{Query}
use Rattle.sql_query.specs.WellBound.{given_with, IsColumnOf, IsWellBound, NamesOnly}
use Rattle.eq_classes.specs.declared.classes.ClassNo.{ClassNo}
use Rattle.pathkeys.specs.work.Finding.{class_numbers}
use Rattle.pathkeys.specs.Keys.{Keys}
use Rattle.pathkeys.specs.Sorted.{keys_order, order_at}
use Rattle.sort_rows.specs.declared.columns.SortColumn.{SortColumn}
use Rattle.sort_rows.specs.work.Columns.{sorting_by, column_in, sorted_columns, columns_order, key_at, IsSortColumn}

-- each member of a class of a well bound query is a column of one of its relations
module _ (c : Contents) (q : Query) (is : IsWellBound c q) where
  used_is : (x : ColRef) → IsIn x q.used → is_column_in c q.range x ≡ true
  used_is x i =
      let of : IsColumnOf c q.range x = all_at (IsColumnOf c q.range) q.used is.used x i in
      and_from _ _ (lt-ltb _ _ of.relation) (lt-ltb _ _ of.column)

  items_are : (i : OrderItem) → IsIn i is.items → is_column_in c q.range i.col ≡ true
  items_are i at = used_is i.col (in_from_contains q.used i.col (all_at (λ (o : OrderItem). Contains q.used o.col) is.items is.named i at))

  conjuncts_are : All (λ e. each_column (is_column_in c q.range) e ≡ true) (given_with c q is.items).conjuncts
  conjuncts_are =
      in_columns q.where_all (is_column_in c q.range)
      (all_from (λ (w : Cond). each_column (is_column_in c q.range) w ≡ true) q.where_all
      (λ w i. all_at (NamesOnly q.used) q.where_all is.conditions w i (is_column_in c q.range) (all_from (λ x. is_column_in c q.range x ≡ true) q.used used_is)))

  pub member_is : (k : Class) → IsIn k q.classes.classes → (x : ColRef) → IsIn x k.members → IsColumnOf c q.range x
  member_is k ik x ix =
      let passed : is_column_in c q.range x ≡ true =
      member_passes (is_column_in c q.range) (given_with c q is.items) (all_at (λ (e : Cond). each_column (is_column_in c q.range) e ≡ true) (given_with c q is.items).conjuncts conjuncts_are) items_are q.classes.classes is.classes.classes k ik x ix in
      let both = and_parts _ _ passed in
      record { relation = ltb-true _ _ both.0; column = ltb-true _ _ both.1 }

class_in : (cs : List Class) (n : ℕ) → n < length cs → IsIn (class_at cs n) cs
class_in cs n lt = in_from_contains cs (class_at cs n) (n, lt, get_or_default cs n (class_at cs n) blank lt)

-- the columns of a key list are columns of the relations of the set
module _ (c : Contents) (q : Query) (is : IsWellBound c q) (set : Set) (keys : Keys) (within : All (λ n. n < length q.classes.classes) keys) where
  some_column : (k : Class) (o : Option ColRef) (s : SortColumn) → first_in k set ≡ o → option_map (sorting_by k set) o ≡ Some s → (x : ColRef) × (first_in k set ≡ Some x) × (sorting_by k set x ≡ s)
  some_column k None s e h = cc
  some_column k (Some x) s e h = (x, e, some_is (sorting_by k set x) s h) where
    some_is : (a b : SortColumn) → Some a ≡ Some b → a ≡ b
    some_is a b h = cc

  pub columns_are : All (IsSortColumn c q set) (sorted_columns q.classes set keys)
  columns_are = all_from (IsSortColumn c q set) (sorted_columns q.classes set keys) each where
    of_class : (n : ℕ) → n < length q.classes.classes → (s : SortColumn) → column_in (class_at q.classes.classes n) set ≡ Some s → IsSortColumn c q set s
    of_class n lt s found =
        let k = class_at q.classes.classes n in
        let w = some_column k (first_in k set) s refl found in
        let one : IsSortColumn c q set (sorting_by k set w.0) = record {
          inside = found_passes (λ (x : ColRef). set x.rel.0) k.members w.0 w.1;
          column = member_is c q is k (class_in q.classes.classes n lt) w.0 (found_in (λ (x : ColRef). set x.rel.0) k.members w.0 w.1);
          place = refl;
        } in
        subst (IsSortColumn c q set) w.2 one

    each : (s : SortColumn) → IsIn s (sorted_columns q.classes set keys) → IsSortColumn c q set s
    each s i =
        let w = in_filter_map (λ n. column_in (class_at q.classes.classes n) set) keys s i in
        of_class w.0 (all_at (λ n. n < length q.classes.classes) keys within w.0 w.1) s w.2

-- by the values at the columns, as by the classes
module _ {X : Type 0} (value : X → ColRef → Value) (t : ClassTable) (set : Set) (x y : X) where
  by_class : (k : Class) (o : Option ColRef) (cs : List SortColumn) (rest : Ordering) → columns_order cs (key_at cs (value x)) (key_at cs (value y)) ≡ rest
      → columns_order (cons_option (option_map (sorting_by k set) o) cs) (key_at (cons_option (option_map (sorting_by k set) o) cs) (value x)) (key_at (cons_option (option_map (sorting_by k set) o) cs) (value y))
      ≡ ordering_then (order_at k o (value x) (value y)) rest
  by_class k None cs rest same = same
  by_class k (Some m) cs rest same = ap (ordering_then (order_at k (Some m) (value x) (value y))) same

  pub columns_compare : (keys : Keys) → columns_order (sorted_columns t set keys) (key_at (sorted_columns t set keys) (value x)) (key_at (sorted_columns t set keys) (value y)) ≡ keys_order value t set keys x y
  columns_compare [] = refl
  columns_compare (n ∷ ns) = by_class (class_at t.classes n) (first_in (class_at t.classes n) set) (sorted_columns t set ns) (keys_order value t set ns x y) (columns_compare ns)

-- one class more
columns_more : (t : ClassTable) (set : Set) (ks : List ClassNo) (i : ℕ) (d : ClassNo) → i < length ks
    → sorted_columns t set (class_numbers (take (i + 1) ks)) ≡ sorted_columns t set (class_numbers (take i ks)) ++ cons_option (column_in (class_at t.classes (get_or ks i d).0) set) []
columns_more t set ks i d lt =
    ap (λ (l : List ClassNo). sorted_columns t set (class_numbers l)) (take_more ks i d lt)
    ∙ ap (sorted_columns t set) (map-append (λ (c : ClassNo). c.0) (take i ks) (get_or ks i d ∷ []))
    ∙ filter_map-append (λ n. column_in (class_at t.classes n) set) (class_numbers (take i ks)) ((get_or ks i d).0 ∷ [])

module _ (t : ClassTable) (set : Set) (ks : List ClassNo) (i : ℕ) (d : ClassNo) (lt : i < length ks) (columns : List SortColumn) (before : columns ≡ sorted_columns t set (class_numbers (take i ks))) where
  pub columns_pushed : (s : SortColumn) → Some s ≡ column_in (class_at t.classes (get_or ks i d).0) set → columns ++ s ∷ [] ≡ sorted_columns t set (class_numbers (take (i + 1) ks))
  columns_pushed s is =
      ap (λ (l : List SortColumn). l ++ s ∷ []) before
      ∙ ap (λ (o : Option SortColumn). sorted_columns t set (class_numbers (take i ks)) ++ cons_option o []) is
      ∙ sym (columns_more t set ks i d lt)

  pub columns_passed : None ≡ column_in (class_at t.classes (get_or ks i d).0) set → columns ≡ sorted_columns t set (class_numbers (take (i + 1) ks))
  columns_passed is =
      before
      ∙ sym (append-nil (sorted_columns t set (class_numbers (take i ks))))
      ∙ ap (λ (o : Option SortColumn). sorted_columns t set (class_numbers (take i ks)) ++ cons_option o []) is
      ∙ sym (columns_more t set ks i d lt)

-- the columns that a call gave
pub columns_given : (t u : ClassTable) (r s : RelSet) (ks ls : Keys) (lent columns : List SortColumn) → lent ≡ columns → columns ≡ sorted_columns t (has r.0) ks → t ≡ u → r ≡ s → ks ≡ ls → lent ≡ sorted_columns u (has s.0) ls
columns_given t u r s ks ls lent columns same given t_is r_is ks_is =
    same ∙ given
    ∙ ap (λ (x : ClassTable). sorted_columns x (has r.0) ks) t_is
    ∙ ap (λ (x : RelSet). sorted_columns u (has x.0) ks) r_is
    ∙ ap (sorted_columns u (has s.0)) ks_is
