-- The nodes and lines of a plan as it is printed, and the numbers that are its own: a cost and a number of rows for each
-- node, the root's first, an outer side's before an inner's. Own.
use Rattle.std.specs.Prelude.{ℕ, ◌+◌, List, [], ◌∷◌, ◌++◌, length}
use Rattle.catalog.specs.Contents.{Contents}
use Rattle.sql_query.specs.Queries.{Query}
use Rattle.plan_tree.specs.Plans.{Plan, seq, index, index_only, bitmap, sort, nest, merge, BitTree, leaf, all_hold, some_arm, BitTrees, no_trees, tree_and}
use Rattle.plan_tree.specs.Costs.{cost, estimate}

-- a cost in all, and a number of rows
abbrev pub CostAndRows : Type 0
CostAndRows = ℕ × ℕ

-- the nodes with numbers: all but those of bitmap trees
abbrev pub nodes : Plan → ℕ
nodes (seq r) = 1
nodes (index r i backward p) = 1
nodes (index_only r i backward p) = 1
nodes (bitmap r p bits) = 1
nodes (sort keys input) = 1 + nodes input
nodes (nest outer inner) = 1 + (nodes outer + nodes inner)
nodes (merge keys outer inner) = 1 + (nodes outer + nodes inner)

-- the lines of a bitmap tree
abbrev mutual
  pub bit_lines : BitTree → ℕ
  bit_lines (leaf i) = 1
  bit_lines (all_hold bs) = 1 + all_bit_lines bs
  bit_lines (some_arm n is) = 1 + length is

  pub all_bit_lines : BitTrees → ℕ
  all_bit_lines no_trees = 0
  all_bit_lines (tree_and b bs) = bit_lines b + all_bit_lines bs

-- the lines of a plan
abbrev pub line_count : Plan → ℕ
line_count (seq r) = 1
line_count (index r i backward p) = 1
line_count (index_only r i backward p) = 1
line_count (bitmap r p bits) = 1 + bit_lines bits
line_count (sort keys input) = 1 + line_count input
line_count (nest outer inner) = 1 + (line_count outer + line_count inner)
line_count (merge keys outer inner) = 1 + (line_count outer + line_count inner)

-- the lines in which the nodes stand, where the root's has a number
abbrev pub lines_from : ℕ → Plan → List ℕ
lines_from at (seq r) = at ∷ []
lines_from at (index r i backward p) = at ∷ []
lines_from at (index_only r i backward p) = at ∷ []
lines_from at (bitmap r p bits) = at ∷ []
lines_from at (sort keys input) = at ∷ lines_from (at + 1) input
lines_from at (nest outer inner) = at ∷ (lines_from (at + 1) outer ++ lines_from (at + 1 + line_count outer) inner)
lines_from at (merge keys outer inner) = at ∷ (lines_from (at + 1) outer ++ lines_from (at + 1 + line_count outer) inner)

module _ (c : Contents) (q : Query) where
  -- what a plan costs in all, and its estimated rows
  abbrev pub own_pair : Plan → CostAndRows
  own_pair p = ((cost c q p).total, estimate c q p)

  -- the numbers that a plan's own nodes have to have printed: a node's before those beneath it, an outer side's before an
  -- inner's
  abbrev pub own_numbers : Plan → List CostAndRows
  own_numbers (seq r) = own_pair (seq r) ∷ []
  own_numbers (index r i backward p) = own_pair (index r i backward p) ∷ []
  own_numbers (index_only r i backward p) = own_pair (index_only r i backward p) ∷ []
  own_numbers (bitmap r p bits) = own_pair (bitmap r p bits) ∷ []
  own_numbers (sort keys input) = own_pair (sort keys input) ∷ own_numbers input
  own_numbers (nest outer inner) = own_pair (nest outer inner) ∷ (own_numbers outer ++ own_numbers inner)
  own_numbers (merge keys outer inner) = own_pair (merge keys outer inner) ∷ (own_numbers outer ++ own_numbers inner)
