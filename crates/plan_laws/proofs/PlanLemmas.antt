-- Plans with other numbers of indexes: they are built, finished and sorted as they were, and cost the same.
use Rattle.std.proofs.Common.{◌≡◌, ◌<◌, ◌≤◌, ◌*◌, ℕ, Bool, true, false, not, cond, ◌||◌, ◌&&◌, nat_lt, List, [], length, refl, sym, ap, ap₂, ◌∙◌, subst}
use Rattle.std.specs.Prelude.{Option, Some, None}
use Rattle.pg_base.specs.Sets.{has}
use Rattle.pg_base.specs.declared.numbers.IndexNo.{IndexNo}
use Rattle.pg_base.specs.declared.numbers.RelNo.{RelNo}
use Rattle.pg_base.specs.declared.rel_set.RelSet.{RelSet}
use Rattle.catalog.specs.Contents.{TableDef, NamedIndex}
use Rattle.catalog.specs.Indexes.{Index}
use Rattle.cost_rules.specs.Costs.{sort_cost, nest_cost, merge_cost, price_of}
use Rattle.cost_rules.specs.Scans.{bitmap_scan_cost}
use Rattle.cost_rules.specs.declared.pair.Pair.{Pair}
use Rattle.cost_rules.specs.declared.parameters.TheConstants.{MOST_COST}
use Rattle.eq_classes.specs.Clauses.{Clause, Set}
use Rattle.eq_classes.specs.Holding.{AreApart, IsWithin}
use Rattle.eq_classes.specs.Parts.{union, is_join, is_local}
use Rattle.path_cost.specs.Estimates.{conditions_from, conditions_where, is_number_where, is_pair_of, kept_where, pairs, set_rows, table_pages, table_rows}
use Rattle.path_cost.specs.Costs.{bitmap_cost, local_operators, operators, rows_after}
use Rattle.path_cost.specs.Runs.{runs}
use Rattle.index_match.specs.Conditions.{conditions_among, is_hash}
use Rattle.index_match.specs.Numbered.{conditions_of, local}
use Rattle.index_match.specs.Usable.{holds_columns}
use Rattle.pathkeys.specs.Keys.{Keys, covers, order_keys}
use Rattle.sql_query.specs.Queries.{Query, all_of_query}
use Rattle.sql_query.specs.declared.window.Window.{Window}
use Rattle.plan_tree.specs.Plans.{Plan, seq, index, index_only, bitmap, sort, nest, merge, BitTree, set_of, GivenScan, given_scan, param_in, is_empty, is_sort, joins_with}
use Rattle.plan_tree.specs.Bitmaps.{uses}
use Rattle.plan_tree.specs.Costs.{asked, cost, estimate, join_operators, merge_operators, part_of, price, price_by, rows_given}
use Rattle.plan_tree.specs.Keys.{keys_of}
use Rattle.plan_tree.specs.Space.{IsSameSet, IsEmpty, others_named, AreSides, IsNest, may_go, IsIndexScan, IsBitmapScan, IsMergeList, HasKeys, IsMerge, IsBuilt, MeetsOrder, IsFinished}
use Rattle.plan_tree.specs.Least.{IsAdmissible, IsBestPlan}
use Rattle.plan_laws.specs.work.Fewer.{Keeps}
use Rattle.plan_laws.specs.Moved.{over}
use Rattle.plan_laws.specs.work.Moved.{moved, tree_moved}
use Rattle.plan_laws.proofs.RunLemmas.{kept-by-over, runs-over, set-rows-over}
use Rattle.plan_laws.proofs.IndexLemmas.{keys-same, scan-cost-same, usable-same}
use Rattle.plan_laws.proofs.TreeLemmas.{tree-on, uses-same, part-there}

-- what reads no index at all
module _ (f : IndexNo → IndexNo) where
  set-there : (p : Plan) → set_of (moved f p) ≡ set_of p
  set-there (seq r) = refl
  set-there (index r i backward p) = refl
  set-there (index_only r i backward p) = refl
  set-there (bitmap r p bits) = refl
  set-there (sort keys input) = set-there input
  set-there (nest outer inner) = ap₂ union (set-there outer) (set-there inner)
  set-there (merge keys outer inner) = ap₂ union (set-there outer) (set-there inner)

  given-there : (p : Plan) → given_scan (moved f p) ≡ given_scan p
  given-there (seq r) = refl
  given-there (index r i backward p) = refl
  given-there (index_only r i backward p) = refl
  given-there (bitmap r p bits) = refl
  given-there (sort keys input) = given-there input
  given-there (nest outer inner) = refl
  given-there (merge keys outer inner) = refl

  plain-there : (p : Plan) → is_sort (moved f p) ≡ is_sort p
  plain-there (seq r) = refl
  plain-there (index r i backward p) = refl
  plain-there (index_only r i backward p) = refl
  plain-there (bitmap r p bits) = refl
  plain-there (sort keys input) = refl
  plain-there (nest outer inner) = refl
  plain-there (merge keys outer inner) = refl

  sides-there : (outer inner : Plan) → AreSides outer inner → AreSides (moved f outer) (moved f inner)
  sides-there outer inner h = record {
    apart = subst (λ (s : Set). AreApart s (set_of (moved f inner))) (sym (set-there outer)) (subst (λ (s : Set). AreApart (set_of outer) s) (sym (set-there inner)) h.apart);
    outer_whole = subst (λ (g : Option GivenScan). IsEmpty (param_in g)) (sym (given-there outer)) h.outer_whole;
  }

  nest-there : (outer inner : Plan) → IsNest outer inner → IsNest (moved f outer) (moved f inner)
  nest-there outer inner h = record {
    sides = sides-there outer inner h.sides;
    given = subst (λ (s : Set). IsWithin (param_in (given_scan (moved f inner))) s) (sym (set-there outer)) (subst (λ (g : Option GivenScan). IsWithin (param_in g) (set_of outer)) (sym (given-there inner)) h.given);
    outer_plain = plain-there outer ∙ h.outer_plain;
    inner_plain = plain-there inner ∙ h.inner_plain;
  }

  joins-there : (q : Query) (outer inner : Plan) → join_operators q (moved f outer) (moved f inner) ≡ join_operators q outer inner
  joins-there q outer inner =
      ap₂ (λ (s u : Set). operators (conditions_where (joins_with s u (given_scan (moved f inner))) q.classes.clauses)) (set-there outer) (set-there inner)
      ∙ ap (λ (g : Option GivenScan). operators (conditions_where (joins_with (set_of outer) (set_of inner) g) q.classes.clauses)) (given-there inner)

  merges-there : (q : Query) (keys : Keys) (outer inner : Plan) → merge_operators q keys (moved f outer) (moved f inner) ≡ merge_operators q keys outer inner
  merges-there q keys outer inner =
      ap₂ (λ (s u : Set). operators (conditions_where (λ (k : Clause). is_join s u k && not (is_pair_of keys k)) q.classes.clauses)) (set-there outer) (set-there inner)

-- estimates, over other indexes
module _ (tables : List TableDef) (a b : List NamedIndex) (q : Query) where
  set-rows-there : (set : Set) → set_rows (over tables b) q.range q.classes set ≡ set_rows (over tables a) q.range q.classes set
  set-rows-there set = set-rows-over tables a b q.range q.classes set

  rows-given-there : (set : Set) (g : Option GivenScan) → rows_given (over tables b) q set g ≡ rows_given (over tables a) q set g
  rows-given-there set None = set-rows-there set
  rows-given-there set (Some s) = kept-by-over tables a b q.range q.classes (table_rows (over tables a) q.range s.relation.0) (is_number_where (is_local s.relation.0 (has s.param.0)) q.classes)

  pairs-there : (s u : Set) (keys : Keys) → pairs (over tables b) q.range q.classes s u keys ≡ pairs (over tables a) q.range q.classes s u keys
  pairs-there s u keys =
      kept-by-over tables a b q.range q.classes (set_rows (over tables b) q.range q.classes s * set_rows (over tables b) q.range q.classes u) (is_number_where (λ (k : Clause). is_join s u k && is_pair_of keys k) q.classes)
      ∙ ap₂ (λ (x y : ℕ). kept_where (over tables a) q.range (x * y) (λ (k : Clause). is_join s u k && is_pair_of keys k) q.classes) (set-rows-there s) (set-rows-there u)

  merge-list-there : (s u : Set) (keys : Keys) → IsMergeList (over tables a) q s u keys → IsMergeList (over tables b) q s u keys
  merge-list-there s u keys h = record { some = h.some; few = h.few; different = h.different; joining = h.joining }

module _ (tables : List TableDef) (a b : List NamedIndex) (q : Query) (f : IndexNo → IndexNo) (m : Keeps (over tables a) (over tables b) q f) where
  estimate-there : (p : Plan) → estimate (over tables b) q (moved f p) ≡ estimate (over tables a) q p
  estimate-there p = ap₂ (rows_given (over tables b) q) (set-there f p) (given-there f p) ∙ rows-given-there tables a b q (set_of p) (given_scan p)

  scan-there : (r : RelNo) (i : IndexNo) (backward : Bool) (p : RelSet) → IsIndexScan (over tables a) q r i backward p → IsIndexScan (over tables b) q r (f i) backward p
  scan-there r i backward p h = record {
    relation = h.relation;
    index = m.there r.0 i h.relation h.index;
    usable = usable-same tables a b i (f i) (m.same r.0 i h.relation h.index) q.classes r.0 h.usable;
    direction = subst (λ (d : Index). may_go backward (is_hash d.method) p ≡ true) (sym (m.same r.0 i h.relation h.index)) h.direction;
    condition = subst (λ (d : Index). (not (is_hash d.method) || nat_lt 0 (length (conditions_among d r.0 (local q.classes r.0 (has p.0))))) ≡ true) (sym (m.same r.0 i h.relation h.index)) h.condition;
    named = subst (λ (d : Index). IsSameSet (has p.0) (others_named r.0 (conditions_of (conditions_among d r.0 (local q.classes r.0 (has p.0)))))) (sym (m.same r.0 i h.relation h.index)) h.named;
  }

  uses-there : (r : RelNo) (p : RelSet) (bits : BitTree) → IsBitmapScan (over tables a) q r p bits → uses (over tables b) q r.0 (has p.0) (tree_moved f bits) ≡ uses (over tables a) q r.0 (has p.0) bits
  uses-there r p bits h = λ k n. uses-same tables a b q f m r.0 h.relation (has p.0) bits (tree-on tables a b q f m r.0 h.relation (has p.0) bits h.tree) n k

  pub keys-there : (p : Plan) → IsBuilt (over tables a) q p → keys_of (over tables b) q (moved f p) ≡ keys_of (over tables a) q p
  keys-there (seq r) h = refl
  keys-there (index r i backward p) h = ap (λ (ks : Keys). cond (is_empty p) ks []) (keys-same tables a b i (f i) (m.same r.0 i h.relation h.index) q.classes r.0 backward)
  keys-there (index_only r i backward p) h = ap (λ (ks : Keys). cond (is_empty p) ks []) (keys-same tables a b i (f i) (m.same r.0 i h.scan.relation h.scan.index) q.classes r.0 backward)
  keys-there (bitmap r p bits) h = refl
  keys-there (sort keys input) h = refl
  keys-there (nest outer inner) h = keys-there outer h.0
  keys-there (merge keys outer inner) h = keys-there outer h.0

  has-keys-there : (p : Plan) (keys : Keys) → IsBuilt (over tables a) q p → HasKeys (over tables a) q p keys → HasKeys (over tables b) q (moved f p) keys
  has-keys-there (seq r) keys h k = k
  has-keys-there (index r i backward p) keys h k = ap (λ (ks : Keys). covers ks keys) (keys-there (index r i backward p) h) ∙ k
  has-keys-there (index_only r i backward p) keys h k = ap (λ (ks : Keys). covers ks keys) (keys-there (index_only r i backward p) h) ∙ k
  has-keys-there (bitmap r p bits) keys h k = k
  has-keys-there (sort ks input) keys h k = k
  has-keys-there (nest outer inner) keys h k = ap (λ (ks : Keys). covers ks keys) (keys-there outer h.0) ∙ k
  has-keys-there (merge ns outer inner) keys h k = ap (λ (ks : Keys). covers ks keys) (keys-there outer h.0) ∙ k

  meets-there : (p : Plan) (keys : Keys) → IsBuilt (over tables a) q p → MeetsOrder (over tables a) q p keys → MeetsOrder (over tables b) q (moved f p) keys
  meets-there (seq r) keys h k = k
  meets-there (index r i backward p) keys h k = ap (λ (ks : Keys). covers ks keys) (keys-there (index r i backward p) h) ∙ k
  meets-there (index_only r i backward p) keys h k = ap (λ (ks : Keys). covers ks keys) (keys-there (index_only r i backward p) h) ∙ k
  meets-there (bitmap r p bits) keys h k = k
  meets-there (sort ks input) keys h k = k
  meets-there (nest outer inner) keys h k = ap (λ (ks : Keys). covers ks keys) (keys-there outer h.0) ∙ k
  meets-there (merge ns outer inner) keys h k = ap (λ (ks : Keys). covers ks keys) (keys-there outer h.0) ∙ k

  merge-there : (keys : Keys) (outer inner : Plan) → IsBuilt (over tables a) q outer → IsBuilt (over tables a) q inner → IsMerge (over tables a) q keys outer inner → IsMerge (over tables b) q keys (moved f outer) (moved f inner)
  merge-there keys outer inner o i h = record {
    sides = sides-there f outer inner h.sides;
    inner_whole = subst (λ (g : Option GivenScan). IsEmpty (param_in g)) (sym (given-there f inner)) h.inner_whole;
    list = subst (λ (s : Set). IsMergeList (over tables b) q s (set_of (moved f inner)) keys) (sym (set-there f outer)) (subst (λ (s : Set). IsMergeList (over tables b) q (set_of outer) s keys) (sym (set-there f inner)) (merge-list-there tables a b q (set_of outer) (set_of inner) keys h.list));
    outer_keys = has-keys-there outer keys o h.outer_keys;
    inner_keys = has-keys-there inner keys i h.inner_keys;
  }

  pub built-there : (p : Plan) → IsBuilt (over tables a) q p → IsBuilt (over tables b) q (moved f p)
  built-there (seq r) h = h
  built-there (index r i backward p) h = scan-there r i backward p h
  built-there (index_only r i backward p) h = record {
    scan = scan-there r i backward p h.scan;
    ordered = subst (λ (d : Index). is_hash d.method ≡ false) (sym (m.same r.0 i h.scan.relation h.scan.index)) h.ordered;
    columns = subst (λ (d : Index). holds_columns d r.0 q.used ≡ true) (sym (m.same r.0 i h.scan.relation h.scan.index)) h.columns;
  }
  built-there (bitmap r p bits) h = record {
    relation = h.relation;
    tree = m.trees r.0 (has p.0) bits h.relation h.tree;
    named = subst (λ (u : ℕ → Bool). IsSameSet (has p.0) (others_named r.0 (conditions_from 0 u q.classes.clauses))) (sym (uses-there r p bits h)) h.named;
  }
  built-there (sort keys input) h = (built-there input h.0, plain-there f input ∙ h.1)
  built-there (nest outer inner) h = (built-there outer h.0, built-there inner h.1, nest-there f outer inner h.2)
  built-there (merge keys outer inner) h = (built-there outer h.0, built-there inner h.1, merge-there keys outer inner h.0 h.1 h.2)

  pub cost-there : (p : Plan) → IsBuilt (over tables a) q p → cost (over tables b) q (moved f p) ≡ cost (over tables a) q p
  cost-there (seq r) h = refl
  cost-there (index r i backward p) h = scan-cost-same tables a b i (f i) (m.same r.0 i h.relation h.index) q r p false
  cost-there (index_only r i backward p) h = scan-cost-same tables a b i (f i) (m.same r.0 i h.scan.relation h.scan.index) q r p true
  cost-there (bitmap r p bits) h =
      ap₂ (λ (u : ℕ → Bool) (n : ℕ). bitmap_cost (over tables b) q.range q.classes r.0 (has p.0) u n) (uses-there r p bits h) (part-there tables a b q f m r h.relation p bits (tree-on tables a b q f m r.0 h.relation (has p.0) bits h.tree))
      ∙ ap (λ (l : ℕ). bitmap_scan_cost l (part_of (over tables a) q r p bits) (rows_after (over tables b) q.range q.classes r.0 (uses (over tables a) q r.0 (has p.0) bits)) (table_pages (over tables a) q.range r.0) (local_operators (over tables a) q.range q.classes r.0 (has p.0))) (runs-over tables a b q.range q.classes (has p.0))
      ∙ ap (λ (n : ℕ). bitmap_scan_cost (runs (over tables a) q.range q.classes (has p.0)) (part_of (over tables a) q r p bits) n (table_pages (over tables a) q.range r.0) (local_operators (over tables a) q.range q.classes r.0 (has p.0))) (kept-by-over tables a b q.range q.classes (table_rows (over tables a) q.range r.0) (uses (over tables a) q r.0 (has p.0) bits))
  cost-there (sort keys input) h =
      ap₂ (λ (x : Pair) (n : ℕ). sort_cost x n) (cost-there input h.0) (ap (set_rows (over tables b) q.range q.classes) (set-there f input) ∙ set-rows-there tables a b q (set_of input))
  cost-there (nest outer inner) h =
      ap₂ (λ (x y : Pair). nest_cost x y (estimate (over tables b) q (moved f outer)) (estimate (over tables b) q (moved f inner)) (join_operators q (moved f outer) (moved f inner))) (cost-there outer h.0) (cost-there inner h.1)
      ∙ ap₂ (λ (x y : ℕ). nest_cost (cost (over tables a) q outer) (cost (over tables a) q inner) x y (join_operators q (moved f outer) (moved f inner))) (estimate-there outer) (estimate-there inner)
      ∙ ap (λ (n : ℕ). nest_cost (cost (over tables a) q outer) (cost (over tables a) q inner) (estimate (over tables a) q outer) (estimate (over tables a) q inner) n) (joins-there f q outer inner)
  cost-there (merge keys outer inner) h =
      ap₂ (λ (x y : Pair). merge_cost x y (estimate (over tables b) q (moved f outer)) (estimate (over tables b) q (moved f inner)) (length keys) (pairs (over tables b) q.range q.classes (set_of (moved f outer)) (set_of (moved f inner)) keys) (merge_operators q keys (moved f outer) (moved f inner))) (cost-there outer h.0) (cost-there inner h.1)
      ∙ ap₂ (λ (x y : ℕ). merge_cost (cost (over tables a) q outer) (cost (over tables a) q inner) x y (length keys) (pairs (over tables b) q.range q.classes (set_of (moved f outer)) (set_of (moved f inner)) keys) (merge_operators q keys (moved f outer) (moved f inner))) (estimate-there outer) (estimate-there inner)
      ∙ ap₂ (λ (x y : ℕ). merge_cost (cost (over tables a) q outer) (cost (over tables a) q inner) (estimate (over tables a) q outer) (estimate (over tables a) q inner) (length keys) x y) (ap₂ (λ (s u : Set). pairs (over tables b) q.range q.classes s u keys) (set-there f outer) (set-there f inner) ∙ pairs-there tables a b q (set_of outer) (set_of inner) keys) (merges-there f q keys outer inner)

  pub finished-there : (p : Plan) → IsFinished (over tables a) q p → IsFinished (over tables b) q (moved f p)
  finished-there p h = record {
    built = built-there p h.built;
    set_is = subst (λ (s : Set). IsSameSet s (all_of_query q)) (sym (set-there f p)) h.set_is;
    param_is = subst (λ (g : Option GivenScan). IsEmpty (param_in g)) (sym (given-there f p)) h.param_is;
    ordered = meets-there p (order_keys q.classes q.order) h.built h.ordered;
  }

  pub admissible-there : (p : Plan) → IsBuilt (over tables a) q p → IsAdmissible (over tables a) q p → IsAdmissible (over tables b) q (moved f p)
  admissible-there p built h = subst (λ (x : Pair). x.total < MOST_COST) (sym (cost-there p built)) h

  price-by : (w : Option Window) (p : Plan) → IsBuilt (over tables a) q p → price_by (over tables b) q w (moved f p) ≡ price_by (over tables a) q w p
  price-by None p h = ap (λ (x : Pair). x.total) (cost-there p h)
  price-by (Some w) p h = ap₂ (λ (x : Pair) (n : ℕ). price_of x (asked w n) n) (cost-there p h) (set-rows-there tables a b q (all_of_query q))

  pub price-there : (p : Plan) → IsBuilt (over tables a) q p → price (over tables b) q (moved f p) ≡ price (over tables a) q p
  price-there p h = price-by q.window p h

-- a plan of the least price is one of the least price, moved
pub best-there : (tables : List TableDef) (a b : List NamedIndex) (q : Query) (f g : IndexNo → IndexNo) → Keeps (over tables a) (over tables b) q f → Keeps (over tables b) (over tables a) q g → (p : Plan) → IsBestPlan (over tables a) q p → IsBestPlan (over tables b) q (moved f p)
best-there tables a b q f g m back p h = record {
  finished = finished-there tables a b q f m p h.finished;
  admissible = admissible-there tables a b q f m p h.finished.built h.admissible;
  least = λ other finished admissible.
      subst (λ (n : ℕ). price (over tables b) q (moved f p) ≤ n) (price-there tables b a q g back other finished.built)
      (subst (λ (n : ℕ). n ≤ price (over tables a) q (moved g other)) (sym (price-there tables a b q f m p h.finished.built))
      (h.least (moved g other) (finished-there tables b a q g back other finished) (admissible-there tables b a q g back other finished.built admissible)));
}
