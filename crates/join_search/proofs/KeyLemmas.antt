-- The classes of the keys of plans are those of the query.
use Rattle.std.proofs.Common.{◌≡◌, ◌<◌, Bool, true, false, cond, nat_eq, [], ◌∷◌, length, take, sym, subst, true≢false}
use Rattle.std.specs.Prelude.{All}
use Rattle.std.specs.List.{list_all, list_any}
use Rattle.std.proofs.lemmas.Bool.{and_parts}
use Rattle.std.proofs.lemmas.List.Elements.{All-cons, All-nil}
use Rattle.pg_base.specs.declared.numbers.IndexNo.{IndexNo}
use Rattle.pg_base.specs.declared.numbers.RelNo.{RelNo}
use Rattle.pg_base.specs.declared.rel_set.RelSet.{RelSet}
use Rattle.catalog.specs.Contents.{Contents, index_at}
use Rattle.eq_classes.specs.Clauses.{Set}
use Rattle.eq_classes.specs.Parts.{joining_from}
use Rattle.pathkeys.specs.Keys.{Keys, index_keys}
use Rattle.pathkeys.proofs.StepLemmas.{keys_by_are_keys}
use Rattle.sql_query.specs.Queries.{Query}
use Rattle.plan_tree.specs.Keys.{keys_of}
use Rattle.plan_tree.specs.work.Paths.{Path}
use Rattle.plan_tree.specs.Plans.{Plan, seq, index, index_only, bitmap, sort, nest, merge, is_empty, is_sort}
use Rattle.plan_tree.specs.Space.{HasKeys, IsBuilt, IsMergeList}
use Rattle.plan_laws.proofs.UsefulLemmas.{joining-below}
use Rattle.join_search.specs.work.Joins.{IsPathAt}
use Rattle.join_search.specs.work.Tables.{none}

-- each class of a list is one of the query
abbrev pub AreClasses : Query → Keys → Type 0
AreClasses q keys = All (λ n. n < length q.classes.classes) keys

listed : (q : Query) (a b : Set) (keys : Keys) → list_all (λ n. list_any (nat_eq n) (take 4 (joining_from a b 0 q.classes.classes))) keys ≡ true → AreClasses q keys
listed q a b [] h = All-nil (λ n. n < length q.classes.classes)
listed q a b (n ∷ keys) h =
    let parts = and_parts (list_any (nat_eq n) (take 4 (joining_from a b 0 q.classes.classes))) (list_all (λ m. list_any (nat_eq m) (take 4 (joining_from a b 0 q.classes.classes))) keys) h in
    All-cons (λ m. m < length q.classes.classes) n keys (joining-below a b q.classes.classes n parts.0) (listed q a b keys parts.1)

module _ (c : Contents) (q : Query) where
  pub list-classes : (a b : Set) (keys : Keys) → IsMergeList c q a b keys → AreClasses q keys
  list-classes a b keys h = listed q a b keys h.joining

  scan-by : (b : Bool) (r : RelNo) (i : IndexNo) (backward : Bool) → AreClasses q (cond b (index_keys c q.classes i r.0 backward) [])
  scan-by true r i backward = (keys_by_are_keys q.classes r.0 backward (index_at c i).method (index_at c i).keys).classes
  scan-by false r i backward = All-nil (λ n. n < length q.classes.classes)

  -- a sort is by classes of the query
  abbrev IsSortByClasses : Plan → Type 0
  IsSortByClasses (sort keys input) = AreClasses q keys
  IsSortByClasses t = Unit {0}

  plain-sorts : (t : Plan) → is_sort t ≡ false → IsSortByClasses t
  plain-sorts (sort keys input) e = absurd (true≢false e)
  plain-sorts (seq r) e = tt
  plain-sorts (index r i backward p) e = tt
  plain-sorts (index_only r i backward p) e = tt
  plain-sorts (bitmap r p bits) e = tt
  plain-sorts (nest o i) e = tt
  plain-sorts (merge keys o i) e = tt

  side-sorts : (t : Plan) (keys : Keys) → HasKeys c q t keys → AreClasses q keys → IsSortByClasses t
  side-sorts (sort ks input) keys h k = subst (AreClasses q) (sym h) k
  side-sorts (seq r) keys h k = tt
  side-sorts (index r i backward p) keys h k = tt
  side-sorts (index_only r i backward p) keys h k = tt
  side-sorts (bitmap r p bits) keys h k = tt
  side-sorts (nest o i) keys h k = tt
  side-sorts (merge ks o i) keys h k = tt

  built-classes : (t : Plan) → IsBuilt c q t → IsSortByClasses t → AreClasses q (keys_of c q t)
  built-classes (seq r) built h = All-nil (λ n. n < length q.classes.classes)
  built-classes (index r i backward p) built h = scan-by (is_empty p) r i backward
  built-classes (index_only r i backward p) built h = scan-by (is_empty p) r i backward
  built-classes (bitmap r p bits) built h = All-nil (λ n. n < length q.classes.classes)
  built-classes (sort keys input) built h = h
  built-classes (nest o i) built h = built-classes o built.0 (plain-sorts o built.2.outer_plain)
  built-classes (merge keys o i) built h = built-classes o built.0 (side-sorts o keys built.2.outer_keys (list-classes _ _ keys built.2.list))

  pub path-classes : (s p : RelSet) (x : Path) → IsPathAt c q s p x → AreClasses q x.keys
  path-classes s p x h = subst (AreClasses q) (sym h.is_path.numbers.keys) (built-classes x.tree h.is_path.plan.built (plain-sorts x.tree h.is_path.plan.plain))

  -- the keys of the outer side of a merge are classes of the query
  pub side-classes : (s : RelSet) (a b : Set) (keys : Keys) (x : Path) (sorted : Bool) → IsPathAt c q s none x → IsMergeList c q a b keys → AreClasses q (cond sorted keys x.keys)
  side-classes s a b keys x true h list = list-classes a b keys list
  side-classes s a b keys x false h list = path-classes s none x h
