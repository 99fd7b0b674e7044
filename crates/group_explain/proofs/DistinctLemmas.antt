-- A column of a query is taken to have a value.
use Rattle.std.proofs.Common.{◌≡◌, ℕ, ◌<◌, ◌≤◌, true, ◌&&◌, List, length, map, get_or, refl, sym, subst, ap₂, arith, ⊎_elim}
use Rattle.std.specs.Prelude.{Option, Some, None, All}
use Rattle.std.proofs.lemmas.Bool.{cases_lt, lt-ltb}
use Rattle.std.proofs.lemmas.List.{get_or_default, get_or_past}
use Rattle.std.proofs.lemmas.List.Elements.{All-map}
use Rattle.pg_expr.specs.declared.operand.ColRef.{ColRef}
use Rattle.catalog.specs.Contents.{Contents, IsLawful, IsTable}
use Rattle.catalog.specs.Range.{table_of, type_in}
use Rattle.catalog.specs.Statistics.{Statistics}
use Rattle.catalog.specs.Tables.{rows_of}
use Rattle.eq_classes.specs.Classes.{Class}
use Rattle.eq_classes.specs.Clauses.{first_in}
use Rattle.eq_classes.specs.Listing.{blank, class_at}
use Rattle.eq_classes.proofs.ListLemmas.{IsIn, found_in, in_from_contains}
use Rattle.path_cost.specs.Columns.{known_statistics, stats_or}
use Rattle.path_cost.specs.work.Columns.{AreTables, is_column_in}
use Rattle.path_cost.proofs.ColumnLemmas.{column_laws, stats_lawful, unknown_lawful}
use Rattle.path_cost.proofs.LimitLemmas.{rows-some}
use Rattle.plan_laws.proofs.WellBoundLemmas.{bound-over}
use Rattle.sort_rows.proofs.ColumnLemmas.{member_is}
use Rattle.sql_query.specs.Queries.{Query, all_of_query}
use Rattle.sql_query.specs.WellBound.{IsColumnOf, IsWellBound}
use Rattle.group_explain.specs.GroupPlans.{distinct_in, distinct_of}

module _ (c : Contents) (q : Query) (lawful : IsLawful c) (bound : IsWellBound c q) where
  tables : AreTables c q.range
  tables = (bound-over c q bound).tables

  column-in : (x : ColRef) → IsColumnOf c q.range x → is_column_in c q.range x ≡ true
  column-in x of = ap₂ (λ a b. a && b) (lt-ltb _ _ of.relation) (lt-ltb _ _ of.column)

  known-some : (x : ColRef) → IsTable c (table_of q.range x) → (o : Option Statistics) → known_statistics c q.range x ≡ o → 1 ≤ (stats_or (rows_of c (table_of q.range x)) o).distinct
  known-some x there None e = (unknown_lawful (type_in c q.range x) (rows_of c (table_of q.range x)) (rows-some c (table_of q.range x) lawful there)).some
  known-some x there (Some s) e = (stats_lawful c (table_of q.range x) x.col s lawful there e).some

  -- a class past the last one has no member
  member-class : (n : ℕ) (x : ColRef) → IsIn x (class_at q.classes.classes n).members → n < length q.classes.classes
  member-class n x inside = ⊎_elim
      (λ (lt : n < length q.classes.classes). lt)
      (λ (le : length q.classes.classes ≤ n). absurd (subst (λ (k : Class). IsIn x k.members) (get_or_past q.classes.classes n blank le) inside))
      (cases_lt n (length q.classes.classes))

  first-some : (n : ℕ) (o : Option ColRef) → first_in (class_at q.classes.classes n) (all_of_query q) ≡ o → 1 ≤ distinct_in c q o
  first-some n None e = omega arith
  first-some n (Some x) e =
      let k = class_at q.classes.classes n in
      let inside : IsIn x k.members = found_in (λ (y : ColRef). all_of_query q y.rel.0) k.members x e in
      let lt : n < length q.classes.classes = member-class n x inside in
      let class : IsIn k q.classes.classes = in_from_contains q.classes.classes k (n, lt, get_or_default q.classes.classes n k blank lt) in
      let of : IsColumnOf c q.range x = member_is c q bound k class x inside in
      let laws = column_laws c q.range x tables (column-in x of) in
      known-some x laws.1 (known_statistics c q.range x) refl

  pub distinct-some : (n : ℕ) → 1 ≤ distinct_of c q n
  distinct-some n = first-some n (first_in (class_at q.classes.classes n) (all_of_query q)) refl

  all-some : (ns : List ℕ) → All (λ n. 1 ≤ n) (map (distinct_of c q) ns)
  all-some ns = All-map (λ n. 1 ≤ n) (distinct_of c q) ns (λ i d lt. distinct-some (get_or ns i d))

  pub distinct-all : (ns found : List ℕ) → found ≡ map (distinct_of c q) ns → All (λ n. 1 ≤ n) found
  distinct-all ns found e = subst (λ l. All (λ n. 1 ≤ n) l) (sym e) (all-some ns)
