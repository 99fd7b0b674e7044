-- Working words beside those of `Moved`.
use Rattle.std.specs.Prelude.{◌≡◌, ◌<◌, ℕ, map, Bool, nat_eq}
use Rattle.std.specs.List.{list_any}
use Rattle.pg_base.specs.declared.numbers.IndexNo.{IndexNo}
use Rattle.catalog.specs.Contents.{Contents, NamedIndex, index_at, indexes_of}
use Rattle.sql_query.specs.Queries.{Query, width}
use Rattle.plan_tree.specs.Bitmaps.{table_of_relation, IsIndexOn, Element, by_index, by_clause}
use Rattle.plan_tree.specs.Plans.{Plan, seq, index, index_only, bitmap, sort, nest, merge, BitTree, leaf, all_hold, some_arm, BitTrees, no_trees, tree_and}

-- an index is one of a table of the query
abbrev pub is_read : Query → NamedIndex → Bool
is_read q x = list_any (λ rel. nat_eq x.index.table.0 rel.0.0) q.range

-- bitmap trees whose indexes have other numbers
abbrev mutual
  pub tree_moved : (IndexNo → IndexNo) → BitTree → BitTree
  tree_moved f (leaf i) = leaf (f i)
  tree_moved f (all_hold bs) = all_hold (trees_moved f bs)
  tree_moved f (some_arm n is) = some_arm n (map f is)

  pub trees_moved : (IndexNo → IndexNo) → BitTrees → BitTrees
  trees_moved f no_trees = no_trees
  trees_moved f (tree_and b bs) = tree_and (tree_moved f b) (trees_moved f bs)

-- what one bitmap is made of, where indexes have other numbers: an OR is known by its clause and stays
abbrev pub element_moved : (IndexNo → IndexNo) → Element → Element
element_moved f (by_index i) = by_index (f i)
element_moved f (by_clause n) = by_clause n

-- a plan whose scans read the same indexes under other numbers
abbrev pub moved : (IndexNo → IndexNo) → Plan → Plan
moved f (seq r) = seq r
moved f (index r i backward p) = index r (f i) backward p
moved f (index_only r i backward p) = index_only r (f i) backward p
moved f (bitmap r p bits) = bitmap r p (tree_moved f bits)
moved f (sort keys input) = sort keys (moved f input)
moved f (nest outer inner) = nest (moved f outer) (moved f inner)
moved f (merge keys outer inner) = merge keys (moved f outer) (moved f inner)

-- an index of a relation's table that a map takes to one of another catalogue
pub record IsFrom (c : Contents) (q : Query) (f : IndexNo → IndexNo) (r : ℕ) (j : IndexNo) : Type 0 where
  pub number : IndexNo
  pub on : IsIndexOn c q r number
  pub taken : f number ≡ j

-- a map of index numbers takes the indexes of each table of the query, in order, to those of another catalogue that have
-- the same definitions
pub record Moves (c d : Contents) (q : Query) (f : IndexNo → IndexNo) : Type 0 where
  pub listed : (r : ℕ) → r < width q → indexes_of d (table_of_relation q r) ≡ map f (indexes_of c (table_of_relation q r))
  pub there : (r : ℕ) (i : IndexNo) → r < width q → IsIndexOn c q r i → IsIndexOn d q r (f i)
  pub same : (r : ℕ) (i : IndexNo) → r < width q → IsIndexOn c q r i → index_at d (f i) ≡ index_at c i
  pub back : (r : ℕ) (j : IndexNo) → r < width q → IsIndexOn d q r j → IsFrom c q f r j
