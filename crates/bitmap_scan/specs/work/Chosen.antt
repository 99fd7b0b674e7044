-- Bitmap trees of some of the elements, each element in its tree of least part (PostgreSQL manual, Combining Multiple
-- Indexes; src/backend/optimizer/path/indxpath.c, choose_bitmap_and; that every set of elements is tried is own).
use Rattle.std.specs.Prelude.{◌≡◌, ◌≤◌, ℕ, ◌/◌, ◌%◌, Bool, cond, nat_eq, List, [], ◌∷◌, take, Some}
use Rattle.std.specs.List.{AllZip, items_where_true}
use Rattle.pg_base.specs.Sets.{has}
use Rattle.pg_base.specs.declared.numbers.RelNo.{RelNo}
use Rattle.pg_base.specs.declared.rel_set.RelSet.{RelSet}
use Rattle.catalog.specs.Contents.{Contents}
use Rattle.sql_query.specs.Queries.{Query}
use Rattle.cost_rules.specs.work.Costs.{capped}
use Rattle.plan_tree.specs.Plans.{BitTree, all_hold, no_trees}
use Rattle.plan_tree.specs.Bitmaps.{Element, MOST_ELEMENTS, AreElements, HasArms, element_of}
use Rattle.plan_tree.specs.Costs.{part_of}
use Rattle.plan_tree.specs.work.Views.{trees_of}

-- the items that the binary digits of a number mark, the lowest digit the first item
abbrev pub marked : {X : Type 0} → ℕ → List X → List X
marked n [] = []
marked n (x ∷ xs) = cond (nat_eq (n % 2) 1) (x ∷ marked (n / 2) xs) (marked (n / 2) xs)

-- the one tree, or the AND of several
abbrev pub combined : List BitTree → BitTree
combined [] = all_hold no_trees
combined (b ∷ []) = b
combined (b ∷ (d ∷ bs)) = all_hold (trees_of (b ∷ (d ∷ bs)))

module _ (c : Contents) (q : Query) (r : RelNo) (p : RelSet) where
  -- a tree that is an element, with a matching index for each arm, and whose part, once cut, is not above that of any
  -- other such tree
  pub record IsLeastTree (e : Element) (b : BitTree) : Type 0 where
    pub element : element_of c q r.0 (has p.0) b ≡ Some e
    pub arms : HasArms c q r.0 (has p.0) b
    pub least : (other : BitTree) → element_of c q r.0 (has p.0) other ≡ Some e → HasArms c q r.0 (has p.0) other →
        capped (part_of c q r p b) ≤ capped (part_of c q r p other)

  -- the trees of least part of some of the first elements, in their order
  pub record AreChosen (bs : List BitTree) : Type 0 where
    pub elements : List Element
    pub are : AreElements c q r.0 (has p.0) elements
    pub mask : List Bool
    pub least : AllZip IsLeastTree (items_where_true mask (take MOST_ELEMENTS elements)) bs
