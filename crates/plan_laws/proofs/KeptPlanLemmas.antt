-- Plans over fewer indexes: what reads only indexes that are kept is a plan over these and over all alike, at the same cost.
use Rattle.std.proofs.Common.{◌≡◌, ◌≤◌, ◌<◌, ℕ, Bool, true, false, not, ◌||◌, nat_eq, nat_lt, List, [], ◌∷◌, length, refl, sym, ap, ap₂, ◌∙◌, subst, true≢false}
use Rattle.std.specs.List.{AllZip, items_where_true, list_any}
use Rattle.std.proofs.lemmas.Bool.{or_left, or_right}
use Rattle.pg_base.specs.Sets.{has}
use Rattle.pg_base.specs.declared.numbers.IndexNo.{IndexNo}
use Rattle.pg_base.specs.declared.numbers.RelNo.{RelNo}
use Rattle.pg_base.specs.declared.rel_set.RelSet.{RelSet}
use Rattle.pg_expr.specs.Cond.{Cond}
use Rattle.catalog.specs.Contents.{TableDef, NamedIndex, Contents, IsIndex}
use Rattle.catalog.specs.Indexes.{Index}
use Rattle.cost_rules.specs.declared.pair.Pair.{Pair}
use Rattle.cost_rules.specs.declared.parameters.TheConstants.{MOST_COST}
use Rattle.path_cost.specs.Estimates.{conditions_from}
use Rattle.index_match.specs.Arms.{arms_of}
use Rattle.index_match.specs.Conditions.{conditions_among, is_hash}
use Rattle.index_match.specs.Numbered.{conditions_of, local}
use Rattle.index_match.specs.Usable.{holds_columns}
use Rattle.pathkeys.specs.Keys.{Keys, covers, order_keys}
use Rattle.sql_query.specs.Queries.{Query, width}
use Rattle.plan_tree.specs.Plans.{Plan, seq, index, index_only, bitmap, sort, nest, merge, BitTree, leaf, all_hold, some_arm, BitTrees, no_trees, tree_and}
use Rattle.plan_tree.specs.Bitmaps.{IsBitTree, condition_at, uses}
use Rattle.plan_tree.specs.work.Costable.{AreCostableTrees, IsCostable, IsCostableTree, IsMatchedBy}
use Rattle.plan_tree.specs.Costs.{cost, price}
use Rattle.plan_tree.specs.Keys.{keys_of}
use Rattle.plan_tree.specs.Least.{IsAdmissible, IsBestPlan, HasNoPlan}
use Rattle.plan_tree.specs.Space.{HasKeys, IsBuilt, IsFinished, IsIndexScan, IsMerge, IsSameSet, MeetsOrder, may_go, others_named}
use Rattle.plan_tree.proofs.CostableLemmas.{built-costable}
use Rattle.plan_tree.proofs.ElementLemmas.{equal-number, same-number}
use Rattle.plan_laws.specs.work.Fewer.{HasRoom, Keeps, KeepsRead, reads, some_reads, tree_reads}
use Rattle.plan_laws.specs.Moved.{HasPrice, over}
use Rattle.plan_laws.specs.work.Moved.{moved}
use Rattle.plan_laws.proofs.HiddenLemmas.{is_kept, left, left-read, on-all, on-kept, on-left, stays-at}
use Rattle.plan_laws.proofs.IndexLemmas.{usable-same}
use Rattle.plan_laws.proofs.KeptTreeLemmas.{on-tree, or-cases, tree-all, tree-left, tree-stays}
use Rattle.plan_laws.proofs.PlanLemmas.{admissible-there, cost-there, finished-there, keys-there, price-there}
use Rattle.plan_laws.proofs.PriceLemmas.{none-reads, price-reads}
use Rattle.plan_laws.proofs.TreeLemmas.{uses-same}

plan-stays : (p : Plan) → moved (λ i. i) p ≡ p
plan-stays (seq r) = refl
plan-stays (index r i backward p) = refl
plan-stays (index_only r i backward p) = refl
plan-stays (bitmap r p bits) = ap (bitmap r p) (tree-stays bits)
plan-stays (sort keys input) = ap (sort keys) (plan-stays input)
plan-stays (nest outer inner) = ap₂ nest (plan-stays outer) (plan-stays inner)
plan-stays (merge keys outer inner) = ap₂ (merge keys) (plan-stays outer) (plan-stays inner)

-- what a plan reads is an index
module _ (c : Contents) (q : Query) where
  number-made : (i j : IndexNo) → IsIndex c i → nat_eq i.0 j.0 ≡ true → IsIndex c j
  number-made i j h e = subst (λ (n : ℕ). n < length c.indexes) (same-number i.0 j.0 e) h

  arms-made : (r : ℕ) (arms : List Cond) (is : List IndexNo) → AllZip (IsMatchedBy c r) arms is → (j : IndexNo) → list_any (λ (i : IndexNo). nat_eq i.0 j.0) is ≡ true → IsIndex c j
  arms-made r arms [] h j e = absurd (true≢false (sym e))
  arms-made r [] (i ∷ is) h j e = absurd h
  arms-made r (x ∷ arms) (i ∷ is) h j e = or-cases (nat_eq i.0 j.0) e (number-made i j h.0.made) (arms-made r arms is h.1 j)

  mutual
    tree-made : (r : ℕ) (t : BitTree) → IsCostableTree c q r t → (j : IndexNo) → tree_reads t j ≡ true → IsIndex c j
    tree-made r (leaf i) h j e = number-made i j h e
    tree-made r (all_hold bs) h j e = trees-made r bs h j e
    tree-made r (some_arm n is) h j e = arms-made r (arms_of (condition_at q n)) is h j e

    trees-made : (r : ℕ) (bs : BitTrees) → AreCostableTrees c q r bs → (j : IndexNo) → some_reads bs j ≡ true → IsIndex c j
    trees-made r no_trees h j e = absurd (true≢false (sym e))
    trees-made r (tree_and t bs) h j e = or-cases (tree_reads t j) e (tree-made r t h.0 j) (trees-made r bs h.1 j)

  read-made : (p : Plan) → IsCostable c q p → (j : IndexNo) → reads p j ≡ true → IsIndex c j
  read-made (seq r) h j e = absurd (true≢false (sym e))
  read-made (index r i backward p) h j e = number-made i j h.1 e
  read-made (index_only r i backward p) h j e = number-made i j h.1 e
  read-made (bitmap r p bits) h j e = tree-made r.0 bits h.1 j e
  read-made (sort keys input) h j e = read-made input h j e
  read-made (nest outer inner) h j e = or-cases (reads outer j) e (read-made outer h.0 j) (read-made inner h.1 j)
  read-made (merge keys outer inner) h j e = or-cases (reads outer j) e (read-made outer h.2 j) (read-made inner h.3 j)

module _ (tables : List TableDef) (q : Query) (kept : List Bool) (xs : List NamedIndex) (room : HasRoom (over tables xs) q) where
  all-keep : Keeps (over tables (left tables q kept xs)) (over tables xs) q (λ i. i)
  all-keep = record {
    there = λ r i lt on. on-all tables q kept xs r i lt on;
    same = λ r i lt on. sym (stays-at tables q kept xs i (on-all tables q kept xs r i lt on).made (on-kept tables q kept xs r i lt on));
    trees = λ r p t lt h. subst (IsBitTree (over tables xs) q r p) (sym (tree-stays t)) (tree-all tables q kept xs room r lt p t h);
  }

  -- a plan over what is left is one over all
  finished-all : (p : Plan) → IsFinished (over tables (left tables q kept xs)) q p → IsFinished (over tables xs) q p
  finished-all p h = subst (IsFinished (over tables xs) q) (plan-stays p) (finished-there tables (left tables q kept xs) xs q (λ i. i) all-keep p h)

  admissible-all : (p : Plan) → IsBuilt (over tables (left tables q kept xs)) q p → IsAdmissible (over tables (left tables q kept xs)) q p → IsAdmissible (over tables xs) q p
  admissible-all p built h = subst (IsAdmissible (over tables xs) q) (plan-stays p) (admissible-there tables (left tables q kept xs) xs q (λ i. i) all-keep p built h)

  cost-all : (p : Plan) → IsBuilt (over tables (left tables q kept xs)) q p → cost (over tables xs) q p ≡ cost (over tables (left tables q kept xs)) q p
  cost-all p h = ap (cost (over tables xs) q) (sym (plan-stays p)) ∙ cost-there tables (left tables q kept xs) xs q (λ i. i) all-keep p h

  price-all : (p : Plan) → IsBuilt (over tables (left tables q kept xs)) q p → price (over tables xs) q p ≡ price (over tables (left tables q kept xs)) q p
  price-all p h = ap (price (over tables xs) q) (sym (plan-stays p)) ∙ price-there tables (left tables q kept xs) xs q (λ i. i) all-keep p h

  keys-all : (p : Plan) → IsBuilt (over tables (left tables q kept xs)) q p → keys_of (over tables (left tables q kept xs)) q p ≡ keys_of (over tables xs) q p
  keys-all p h = sym (ap (keys_of (over tables xs) q) (sym (plan-stays p)) ∙ keys-there tables (left tables q kept xs) xs q (λ i. i) all-keep p h)

  has-keys-left : (p : Plan) (keys : Keys) → IsBuilt (over tables (left tables q kept xs)) q p → HasKeys (over tables xs) q p keys → HasKeys (over tables (left tables q kept xs)) q p keys
  has-keys-left (seq r) keys h k = k
  has-keys-left (index r i backward p) keys h k = ap (λ (ks : Keys). covers ks keys) (keys-all (index r i backward p) h) ∙ k
  has-keys-left (index_only r i backward p) keys h k = ap (λ (ks : Keys). covers ks keys) (keys-all (index_only r i backward p) h) ∙ k
  has-keys-left (bitmap r p bits) keys h k = k
  has-keys-left (sort ks input) keys h k = k
  has-keys-left (nest outer inner) keys h k = ap (λ (ks : Keys). covers ks keys) (keys-all (nest outer inner) h) ∙ k
  has-keys-left (merge ns outer inner) keys h k = ap (λ (ks : Keys). covers ks keys) (keys-all (merge ns outer inner) h) ∙ k

  meets-left : (p : Plan) (keys : Keys) → IsBuilt (over tables (left tables q kept xs)) q p → MeetsOrder (over tables xs) q p keys → MeetsOrder (over tables (left tables q kept xs)) q p keys
  meets-left (seq r) keys h k = k
  meets-left (index r i backward p) keys h k = ap (λ (ks : Keys). covers ks keys) (keys-all (index r i backward p) h) ∙ k
  meets-left (index_only r i backward p) keys h k = ap (λ (ks : Keys). covers ks keys) (keys-all (index_only r i backward p) h) ∙ k
  meets-left (bitmap r p bits) keys h k = k
  meets-left (sort ks input) keys h k = k
  meets-left (nest outer inner) keys h k = ap (λ (ks : Keys). covers ks keys) (keys-all (nest outer inner) h) ∙ k
  meets-left (merge ns outer inner) keys h k = ap (λ (ks : Keys). covers ks keys) (keys-all (merge ns outer inner) h) ∙ k

  merge-left : (keys : Keys) (outer inner : Plan) → IsBuilt (over tables (left tables q kept xs)) q outer → IsBuilt (over tables (left tables q kept xs)) q inner → IsMerge (over tables xs) q keys outer inner → IsMerge (over tables (left tables q kept xs)) q keys outer inner
  merge-left keys outer inner o i h = record {
    sides = h.sides;
    inner_whole = h.inner_whole;
    list = record { some = h.list.some; few = h.list.few; different = h.list.different; joining = h.list.joining };
    outer_keys = has-keys-left outer keys o h.outer_keys;
    inner_keys = has-keys-left inner keys i h.inner_keys;
  }

  scan-left : (r : RelNo) (i : IndexNo) (backward : Bool) (p : RelSet) → is_kept kept i ≡ true → IsIndexScan (over tables xs) q r i backward p → IsIndexScan (over tables (left tables q kept xs)) q r i backward p
  scan-left r i backward p k h =
      let at = stays-at tables q kept xs i h.index.made k in
      record {
        relation = h.relation;
        index = on-left tables q kept xs r.0 i k h.index;
        usable = usable-same tables xs (left tables q kept xs) i i at q.classes r.0 h.usable;
        direction = subst (λ (d : Index). may_go backward (is_hash d.method) p ≡ true) (sym at) h.direction;
        condition = subst (λ (d : Index). (not (is_hash d.method) || nat_lt 0 (length (conditions_among d r.0 (local q.classes r.0 (has p.0))))) ≡ true) (sym at) h.condition;
        named = subst (λ (d : Index). IsSameSet (has p.0) (others_named r.0 (conditions_of (conditions_among d r.0 (local q.classes r.0 (has p.0)))))) (sym at) h.named;
      }

  uses-left : (r : RelNo) (p : RelSet) (bits : BitTree) → r.0 < width q → IsBitTree (over tables (left tables q kept xs)) q r.0 (has p.0) bits → uses (over tables xs) q r.0 (has p.0) bits ≡ uses (over tables (left tables q kept xs)) q r.0 (has p.0) bits
  uses-left r p bits lt h = λ k n.
      (ap (λ (t : BitTree). uses (over tables xs) q r.0 (has p.0) t n) (sym (tree-stays bits))
      ∙ uses-same tables (left tables q kept xs) xs q (λ i. i) all-keep r.0 lt (has p.0) bits (on-tree tables (left tables q kept xs) q r.0 (has p.0) bits lt h) n) k

  -- a plan that reads only what is kept is one over what is left
  built-left : (p : Plan) → ((i : IndexNo) → reads p i ≡ true → is_kept kept i ≡ true) → IsBuilt (over tables xs) q p → IsBuilt (over tables (left tables q kept xs)) q p
  built-left (seq r) k h = h
  built-left (index r i backward p) k h = scan-left r i backward p (k i (equal-number i.0 i.0 refl)) h
  built-left (index_only r i backward p) k h =
      let at = stays-at tables q kept xs i h.scan.index.made (k i (equal-number i.0 i.0 refl)) in
      record {
        scan = scan-left r i backward p (k i (equal-number i.0 i.0 refl)) h.scan;
        ordered = subst (λ (d : Index). is_hash d.method ≡ false) (sym at) h.ordered;
        columns = subst (λ (d : Index). holds_columns d r.0 q.used ≡ true) (sym at) h.columns;
      }
  built-left (bitmap r p bits) k h =
      let tree = tree-left tables q kept xs room r.0 h.relation (has p.0) bits k h.tree in
      record {
        relation = h.relation;
        tree = tree;
        named = subst (λ (u : ℕ → Bool). IsSameSet (has p.0) (others_named r.0 (conditions_from 0 u q.classes.clauses))) (uses-left r p bits h.relation tree) h.named;
      }
  built-left (sort keys input) k h = (built-left input k h.0, h.1)
  built-left (nest outer inner) k h = (built-left outer (λ i e. k i (or_left (reads outer i) (reads inner i) e)) h.0, built-left inner (λ i e. k i (or_right (reads outer i) (reads inner i) e)) h.1, h.2)
  built-left (merge keys outer inner) k h =
      let o = built-left outer (λ i e. k i (or_left (reads outer i) (reads inner i) e)) h.0 in
      let i = built-left inner (λ i e. k i (or_right (reads outer i) (reads inner i) e)) h.1 in
      (o, i, merge-left keys outer inner o i h.2)

  -- a plan of the least price is one of the least price over what is left
  best-left : (p : Plan) → IsBuilt (over tables (left tables q kept xs)) q p → IsBestPlan (over tables xs) q p → IsBestPlan (over tables (left tables q kept xs)) q p
  best-left p built h = record {
    finished = record { built = built; set_is = h.finished.set_is; param_is = h.finished.param_is; ordered = meets-left p (order_keys q.classes q.order) built h.finished.ordered };
    admissible = subst (λ (x : Pair). x.total < MOST_COST) (cost-all p built) h.admissible;
    least = λ other finished admissible.
        subst (λ (n : ℕ). n ≤ price (over tables (left tables q kept xs)) q other) (price-all p built)
        (subst (λ (n : ℕ). price (over tables xs) q p ≤ n) (price-all other finished.built)
        (h.least other (finished-all other finished) (admissible-all other finished.built admissible)));
  }

  -- a least price is the least over any part of the indexes that has those which a plan of it reads
  pub price-left : (p : Plan) → IsBestPlan (over tables xs) q p → KeepsRead (over tables xs) p kept → HasPrice (over tables (items_where_true kept xs)) q (price (over tables xs) q p)
  price-left p h k =
      let built = built-left p (λ i e. k i (read-made (over tables xs) q p (built-costable (over tables xs) q p h.finished.built) i e) e) h.finished.built in
      price-reads tables q (left tables q kept xs) (items_where_true kept xs) (left-read tables q kept xs) (price (over tables xs) q p)
      (record { plan = p; best = best-left p built h; is = sym (price-all p built) })

  -- where there is none over all there is none over a part
  pub none-left : HasNoPlan (over tables xs) q → HasNoPlan (over tables (items_where_true kept xs)) q
  none-left h =
      none-reads tables q (left tables q kept xs) (items_where_true kept xs) (left-read tables q kept xs)
      (λ p finished admissible. h p (finished-all p finished) (admissible-all p finished.built admissible))
