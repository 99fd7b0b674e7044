-- The indexes that a plan reads, and catalogues with fewer indexes. Own.
use Rattle.std.specs.Prelude.{◌≡◌, ◌<◌, ◌≤◌, ◌+◌, ◌||◌, ℕ, Bool, true, false, nat_eq, List, length, filter, slice_index_or}
use Rattle.std.specs.List.{list_any}
use Rattle.pg_base.specs.declared.numbers.IndexNo.{IndexNo}
use Rattle.catalog.specs.Contents.{Contents, IsIndex, index_at, indexes_of}
use Rattle.eq_classes.specs.Clauses.{Clause, Set}
use Rattle.sql_query.specs.Queries.{Query, width}
use Rattle.plan_tree.specs.Bitmaps.{IsBitTree, IsIndexOn, MOST_ELEMENTS, is_or, table_of_relation}
use Rattle.plan_tree.specs.Plans.{Plan, seq, index, index_only, bitmap, sort, nest, merge, BitTree, leaf, all_hold, some_arm, BitTrees, no_trees, tree_and}
use Rattle.plan_laws.specs.work.Moved.{tree_moved}

abbrev mutual
  -- a bitmap tree reads an index: a leaf's, a part's, or an arm's
  pub tree_reads : BitTree → IndexNo → Bool
  tree_reads (leaf j) i = nat_eq j.0 i.0
  tree_reads (all_hold bs) i = some_reads bs i
  tree_reads (some_arm n js) i = list_any (λ (j : IndexNo). nat_eq j.0 i.0) js

  -- some tree of a list reads an index
  pub some_reads : BitTrees → IndexNo → Bool
  some_reads no_trees i = false
  some_reads (tree_and b bs) i = tree_reads b i || some_reads bs i

-- a plan reads an index: some scan of it does
abbrev pub reads : Plan → IndexNo → Bool
reads (seq r) i = false
reads (index r j backward p) i = nat_eq j.0 i.0
reads (index_only r j backward p) i = nat_eq j.0 i.0
reads (bitmap r p bits) i = tree_reads bits i
reads (sort keys input) i = reads input i
reads (nest outer inner) i = reads outer i || reads inner i
reads (merge keys outer inner) i = reads outer i || reads inner i

-- of the indexes of a catalogue those are kept, by their places, that a plan reads, and others or none beside
abbrev pub KeepsRead : Contents → Plan → List Bool → Type 0
KeepsRead c p kept = (i : IndexNo) → IsIndex c i → reads p i ≡ true → slice_index_or kept i.0 false ≡ true

-- the clauses of a query that are ORs
abbrev pub or_clauses : Query → List Clause
or_clauses q = filter (λ (k : Clause). is_or k.cond) q.classes.clauses

-- the indexes of each table of a query and the ORs among its clauses are together no more than a bitmap may be made of, so
-- that none of them takes another one's place
abbrev pub HasRoom : Contents → Query → Type 0
HasRoom c q = (r : ℕ) → r < width q → length (indexes_of c (table_of_relation q r)) + length (or_clauses q) ≤ MOST_ELEMENTS

-- what the tables of a query have in one catalogue stays in another under the numbers that a map gives: indexes with their
-- definitions, and what bitmaps are made of them
pub record Keeps (c d : Contents) (q : Query) (f : IndexNo → IndexNo) : Type 0 where
  pub there : (r : ℕ) (i : IndexNo) → r < width q → IsIndexOn c q r i → IsIndexOn d q r (f i)
  pub same : (r : ℕ) (i : IndexNo) → r < width q → IsIndexOn c q r i → index_at d (f i) ≡ index_at c i
  pub trees : (r : ℕ) (p : Set) (t : BitTree) → r < width q → IsBitTree c q r p t → IsBitTree d q r p (tree_moved f t)
