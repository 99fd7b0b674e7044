-- A sort of a plan is by classes: on the side of a merge by its keys, on top of a plan by those of ORDER BY.
use Rattle.std.proofs.Common.{◌≡◌, ◌<◌, ℕ, true, false, length, sym, subst, All}
use Rattle.std.proofs.lemmas.Bool.{true≢false}
use Rattle.catalog.specs.Contents.{Contents}
use Rattle.sql_query.specs.Queries.{Query}
use Rattle.plan_tree.specs.pathkeys_Keys.{Keys, order_keys}
use Rattle.plan_tree.specs.pathkeys_OnceLemmas.{order_keys_are_keys}
use Rattle.plan_tree.specs.Plans.{Plan, seq, index, index_only, bitmap, sort, nest, merge, is_sort}
use Rattle.plan_tree.specs.Space.{HasKeys, MeetsOrder}

module _ (c : Contents) (q : Query) where
  -- a sort on the top of a plan is by classes
  abbrev pub IsByClasses : Plan → Type 0
  IsByClasses (sort keys input) = All (λ n. n < length q.classes.classes) keys
  IsByClasses _ = Unit {0}

  pub plain_by_classes : (p : Plan) → is_sort p ≡ false → IsByClasses p
  plain_by_classes (seq r) plain = tt
  plain_by_classes (index r i backward p) plain = tt
  plain_by_classes (index_only r i backward p) plain = tt
  plain_by_classes (bitmap r p bits) plain = tt
  plain_by_classes (sort keys input) plain = absurd (true≢false plain)
  plain_by_classes (nest outer inner) plain = tt
  plain_by_classes (merge keys outer inner) plain = tt

  -- a side of a merge
  pub side_by_classes : (p : Plan) (keys : Keys) → HasKeys c q p keys → All (λ n. n < length q.classes.classes) keys → IsByClasses p
  side_by_classes (seq r) keys has all = tt
  side_by_classes (index r i backward p) keys has all = tt
  side_by_classes (index_only r i backward p) keys has all = tt
  side_by_classes (bitmap r p bits) keys has all = tt
  side_by_classes (sort ks input) keys has all = subst (All (λ n. n < length q.classes.classes)) (sym has) all
  side_by_classes (nest outer inner) keys has all = tt
  side_by_classes (merge ks outer inner) keys has all = tt

  -- a plan in the query's order
  pub top_by_classes : (p : Plan) → MeetsOrder c q p (order_keys q.classes q.order) → IsByClasses p
  top_by_classes (seq r) ordered = tt
  top_by_classes (index r i backward p) ordered = tt
  top_by_classes (index_only r i backward p) ordered = tt
  top_by_classes (bitmap r p bits) ordered = tt
  top_by_classes (sort keys input) ordered = subst (All (λ n. n < length q.classes.classes)) (sym ordered.0) (order_keys_are_keys q.classes q.order).classes
  top_by_classes (nest outer inner) ordered = tt
  top_by_classes (merge keys outer inner) ordered = tt
