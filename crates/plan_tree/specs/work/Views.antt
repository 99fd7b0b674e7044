-- The trees that bitmap trees, plans and paths stand for. Own.
use Rattle.std.specs.Prelude.{Bool, List, [], ◌∷◌, map}
use Rattle.plan_tree.specs.Plans.{BitTree, leaf, all_hold, some_arm, BitTrees, no_trees, tree_and, Plan, seq, index, index_only, bitmap, sort, nest, merge}
use Rattle.plan_tree.specs.Bitmaps.{Element, by_index, by_clause}
use Rattle.plan_tree.specs.work.Paths.{Path, is_at_most}
use Rattle.plan_tree.specs.declared.bits.BitTree.{BitTree as Bits}
use Rattle.plan_tree.specs.declared.bits.BitTree.TheOpen.{BitTree-F, Leaf, And, Or}
use Rattle.plan_tree.specs.declared.bits.BitTree.TheFolds.{fold-BitTree}
use Rattle.plan_tree.specs.declared.plan.Plan.{Plan as Planned, Seq, Index, IndexOnly, Bitmap, Sort', Nest', Merge'}
use Rattle.plan_tree.specs.declared.path.Path.{Path as Costed}
use Rattle.plan_tree.specs.declared.elements.Element.{Element as Chosen}
use Rattle.plan_tree.specs.declared.elements.Element.TheVariants as chosen

-- a list of bitmap trees as the parts of an AND
abbrev pub trees_of : List BitTree → BitTrees
trees_of [] = no_trees
trees_of (b ∷ bs) = tree_and b (trees_of bs)

-- one level, with each part already seen as its tree
abbrev pub bits_step : BitTree-F BitTree BitTrees → BitTree
bits_step (Leaf i) = leaf i
bits_step (And parts) = all_hold parts
bits_step (Or n is) = some_arm n is.items

-- the tree of a bitmap tree, and those of a list
abbrev pub bits : Bits → BitTree
bits = fold-BitTree BitTree BitTrees bits_step (λ parts. trees_of parts.items.items)

-- the trees of a list, in order, as the parts of an AND
abbrev pub bits_all : List Bits → BitTrees
bits_all bs = trees_of (map bits bs)

-- the tree of a plan
abbrev pub plan : Planned → Plan
plan (Seq rel) = seq rel
plan (Index rel i backward param) = index rel i backward param
plan (IndexOnly rel i backward param) = index_only rel i backward param
plan (Bitmap rel param b) = bitmap rel param (bits b)
plan (Sort' keys _ input) = sort keys (plan input)
plan (Nest' _ outer _ inner) = nest (plan outer) (plan inner)
plan (Merge' keys _ outer _ inner) = merge keys (plan outer) (plan inner)

-- a path with the tree of its plan
abbrev pub path : Costed → Path
path p = record { tree = plan p.plan; set = p.set; param = p.param; startup = p.startup; cost = p.cost; rows = p.rows; keys = p.keys }

-- what an element of a bitmap stands for
abbrev pub element : Chosen → Element
element (chosen.Index i) = by_index i
element (chosen.Clause n) = by_clause n

-- one path with its plan may take another's place
abbrev pub is_path_at_most : Costed → Costed → Bool
is_path_at_most a b = is_at_most (path a) (path b)
