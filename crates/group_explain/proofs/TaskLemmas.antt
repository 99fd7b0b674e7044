-- How many different values the first members of keys are taken to have.
use Prim.Native.Nat.{suc}
use Rattle.std.proofs.Common.{◌≡◌, ℕ, ◌+◌, ◌<◌, ◌≤◌, true, ◌&&◌, List, [], ◌∷◌, ◌++◌, drop, drop-cons, get_or, map, append_assoc, sym, subst, ap, ap₂, ◌∙◌, length, arith, ⊎_elim}
use Rattle.std.specs.Prelude.{All, Some, None}
use Rattle.std.proofs.lemmas.Bool.{cases_lt, lt-ltb}
use Rattle.std.proofs.lemmas.List.{get_or-map, get_or_default, get_or_past, length-map}
use Rattle.pg_expr.specs.declared.operand.ColRef.{ColRef}
use Rattle.catalog.specs.Contents.{Contents}
use Rattle.catalog.specs.Range.{Range}
use Rattle.eq_classes.specs.Classes.{Class}
use Rattle.eq_classes.specs.Clauses.{Set, ClassTable, first_in}
use Rattle.eq_classes.specs.Listing.{blank, class_at}
use Rattle.eq_classes.specs.declared.classes.ClassNo.{ClassNo}
use Rattle.pathkeys.specs.work.Finding.{class_numbers}
use Rattle.eq_classes.proofs.ListLemmas.{IsIn, found_in, in_from_contains}
use Rattle.path_cost.specs.Columns.{stats_of}
use Rattle.path_cost.specs.work.Columns.{AreTables, is_column_in}
use Rattle.reply.specs.plan_laws_WellBoundLemmas.{bound-over}
use Rattle.plan_tree.specs.Space.{IsSameSet}
use Rattle.sort_rows.proofs.ColumnLemmas.{member_is}
use Rattle.sql_query.specs.Queries.{Query, all_of_query}
use Rattle.sql_query.specs.WellBound.{IsColumnOf, IsWellBound}
use Rattle.group_explain.specs.GroupPlans.{distinct_in, distinct_of}

-- one key more
pub values-more : (f : ℕ → ℕ) (ks : List ClassNo) (n : ℕ) (d : ClassNo) (before new : List ℕ) → n < length ks → new ≡ before ++ f (get_or ks n d).0 ∷ []
    → before ++ map f (class_numbers (drop n ks)) ≡ map f (class_numbers ks) → new ++ map f (class_numbers (drop (n + 1) ks)) ≡ map f (class_numbers ks)
values-more f ks n d before new lt e whole =
    let rest = map f (class_numbers (drop (n + 1) ks)) in
    let same : drop n ks ≡ get_or ks n d ∷ drop (n + 1) ks = drop-cons ks n d lt ∙ ap (λ (m : ℕ). get_or ks n d ∷ drop m ks) (let e : suc n ≡ n + 1 = omega arith in e) in
    ap (λ (l : List ℕ). l ++ rest) e ∙ append_assoc before (f (get_or ks n d).0 ∷ []) rest ∙ sym (ap (λ (l : List ClassNo). before ++ map f (class_numbers l)) same) ∙ whole

-- the keys of the task are classes
pub all-within : (c : ℕ) (ks ls : List ℕ) → ls ≡ ks → All (λ n. n < c) ks → All (λ n. n < c) ls
all-within c ks ls e all = subst (All (λ n. n < c)) (sym e) all

-- what was lent is the query's
same-first : (q : Query) (n : ℕ) (set : Set) (t : ClassTable) → t ≡ q.classes → IsSameSet set (all_of_query q) → first_in (class_at t.classes n) set ≡ first_in (class_at q.classes.classes n) (all_of_query q)
same-first q n set t same all =
    ap (λ (u : ClassTable). first_in (class_at u.classes n) set) same ∙ ap (λ (s : Set). first_in (class_at q.classes.classes n) s) (λ i k. all k i)

module _ (c : Contents) (q : Query) (bound : IsWellBound c q) where
  pub tables : (range : Range) → range ≡ q.range → AreTables c range
  tables range e = subst (AreTables c) (sym e) (bound-over c q bound).tables

  -- a class past the last one has no member
  member-class : (n : ℕ) (x : ColRef) → IsIn x (class_at q.classes.classes n).members → n < length q.classes.classes
  member-class n x inside = ⊎_elim
      (λ (lt : n < length q.classes.classes). lt)
      (λ (le : length q.classes.classes ≤ n). absurd (subst (λ (k : Class). IsIn x k.members) (get_or_past q.classes.classes n blank le) inside))
      (cases_lt n (length q.classes.classes))

  column-of : (n : ℕ) (set : Set) (x : ColRef) → first_in (class_at q.classes.classes n) set ≡ Some x → IsColumnOf c q.range x
  column-of n set x e =
      let k = class_at q.classes.classes n in
      let inside : IsIn x k.members = found_in (λ (y : ColRef). set y.rel.0) k.members x e in
      let lt : n < length q.classes.classes = member-class n x inside in
      let class : IsIn k q.classes.classes = in_from_contains q.classes.classes k (n, lt, get_or_default q.classes.classes n k blank lt) in
      member_is c q bound k class x inside

  column-in : (x : ColRef) → IsColumnOf c q.range x → is_column_in c q.range x ≡ true
  column-in x of = ap₂ (λ a b. a && b) (lt-ltb _ _ of.relation) (lt-ltb _ _ of.column)

  -- a member is a column of the relations that were lent
  pub member-column : (n : ℕ) (set : Set) (t : ClassTable) (range : Range) (x : ColRef) → t ≡ q.classes → range ≡ q.range → IsSameSet set (all_of_query q) → Some x ≡ first_in (class_at t.classes n) set → is_column_in c range x ≡ true
  member-column n set t range x same ranged all e =
      subst (λ r. is_column_in c r x ≡ true) (sym ranged)
      (column-in x (column-of n (all_of_query q) x (sym (same-first q n set t same all) ∙ sym e)))

  pub member-values : (n : ℕ) (set : Set) (t : ClassTable) (range : Range) (x : ColRef) (found : ℕ) → t ≡ q.classes → range ≡ q.range → IsSameSet set (all_of_query q) → Some x ≡ first_in (class_at t.classes n) set
      → found ≡ (stats_of c range x).distinct → found ≡ distinct_of c q n
  member-values n set t range x found same ranged all e values =
      values ∙ ap (λ r. (stats_of c r x).distinct) ranged ∙ ap (distinct_in c q) (e ∙ same-first q n set t same all)

  pub no-member-values : (n : ℕ) (set : Set) (t : ClassTable) → t ≡ q.classes → IsSameSet set (all_of_query q) → None ≡ first_in (class_at t.classes n) set → 1 ≡ distinct_of c q n
  no-member-values n set t same all e = ap (distinct_in c q) (e ∙ same-first q n set t same all)
