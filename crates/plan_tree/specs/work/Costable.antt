-- Which plans have a cost: those of relations of the query by indexes of the catalogue, an index for each arm that it
-- matches, and merges by 1 to 3 classes. A plan need not be of the space. Own.
use Rattle.std.specs.Prelude.{◌≡◌, ◌<◌, ◌≤◌, ℕ, true, length}
use Rattle.std.specs.List.{AllZip}
use Rattle.pg_base.specs.declared.limits.TheConstants.{MOST_MERGE_KEYS}
use Rattle.pg_base.specs.declared.numbers.IndexNo.{IndexNo}
use Rattle.pg_expr.specs.Cond.{Cond}
use Rattle.sql_query.specs.catalog_Contents.{Contents, IsIndex, index_at}
use Rattle.index_match.specs.Arms.{arms_of, is_matched}
use Rattle.sql_query.specs.Queries.{Query, width}
use Rattle.plan_tree.specs.Plans.{Plan, seq, index, index_only, bitmap, sort, nest, merge, BitTree, leaf, all_hold, some_arm, BitTrees, no_trees, tree_and}
use Rattle.plan_tree.specs.Bitmaps.{condition_at}

-- an index of the catalogue matches an arm wholly
pub record IsMatchedBy (c : Contents) (r : ℕ) (arm : Cond) (i : IndexNo) : Type 0 where
  pub made : IsIndex c i
  pub matched : is_matched (index_at c i) r arm ≡ true

module _ (c : Contents) (q : Query) where
  -- a bitmap tree by indexes of the catalogue
  abbrev mutual
    pub IsCostableTree : ℕ → BitTree → Type 0
    IsCostableTree r (leaf i) = IsIndex c i
    IsCostableTree r (all_hold bs) = AreCostableTrees r bs
    IsCostableTree r (some_arm n is) = AllZip (IsMatchedBy c r) (arms_of (condition_at q n)) is

    pub AreCostableTrees : ℕ → BitTrees → Type 0
    AreCostableTrees r no_trees = Unit {0}
    AreCostableTrees r (tree_and b bs) = IsCostableTree r b × AreCostableTrees r bs

  -- a plan by such trees and indexes
  abbrev pub IsCostable : Plan → Type 0
  IsCostable (seq r) = r.0 < width q
  IsCostable (index r i backward p) = (r.0 < width q) × IsIndex c i
  IsCostable (index_only r i backward p) = (r.0 < width q) × IsIndex c i
  IsCostable (bitmap r p bits) = (r.0 < width q) × IsCostableTree r.0 bits
  IsCostable (sort keys input) = IsCostable input
  IsCostable (nest outer inner) = IsCostable outer × IsCostable inner
  IsCostable (merge keys outer inner) = (1 ≤ length keys) × (length keys ≤ MOST_MERGE_KEYS) × IsCostable outer × IsCostable inner
