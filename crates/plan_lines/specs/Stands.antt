-- How deep the lines of bitmap trees stand. Own.
use Rattle.std.specs.Prelude.{ℕ, ◌+◌, ◌≤◌, All}
use Rattle.pg_base.specs.declared.numbers.IndexNo.{IndexNo}
use Rattle.plan_tree.specs.Plans.{BitTree, leaf, all_hold, some_arm, BitTrees, no_trees, tree_and}

-- the greatest depth of a line
abbrev pub MOST_DEPTH : ℕ
MOST_DEPTH = 64

-- no line of a tree whose first line stands at a depth stands deeper than that
abbrev mutual
  pub Stands : ℕ → BitTree → Type 0
  Stands d (leaf i) = d ≤ MOST_DEPTH
  Stands d (all_hold bs) = (d ≤ MOST_DEPTH) × Stand (d + 1) bs
  Stands d (some_arm n is) = (d ≤ MOST_DEPTH) × All (λ (i : IndexNo). d + 1 ≤ MOST_DEPTH) is

  pub Stand : ℕ → BitTrees → Type 0
  Stand d no_trees = Unit {0}
  Stand d (tree_and b bs) = Stands d b × Stand d bs
