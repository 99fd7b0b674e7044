-- The text of a certificate: a line for each entry, and one for the best plan. Own; it is written and read by the same
-- words.
use Rattle.std.specs.Prelude.{ℕ, ◌+◌, ◌==◌, Bool, true, false, not, cond, List, [], ◌∷◌, ◌++◌, codes, map, Option, Some, None}
use Rattle.std.specs.Fmt.{decimal}
use Rattle.std.specs.List.{list_all}
use Rattle.pg_base.specs.Sets.{has}
use Rattle.pg_base.specs.declared.numbers.IndexNo.{IndexNo}
use Rattle.pg_base.specs.declared.rel_set.RelSet.{RelSet}
use Rattle.catalog.specs.Contents.{Contents, index_name_at}
use Rattle.cost_rules.specs.Costs.{pair}
use Rattle.sql_query.specs.Queries.{Query}
use Rattle.sql_query.specs.declared.window.Window.{Window}
use Rattle.plan_tree.specs.Plans.{BitTree, leaf, all_hold, some_arm, BitTrees, no_trees, tree_and, is_empty}
use Rattle.eq_classes.specs.Clauses.{Set}
use Rattle.explain.specs.Texts.{aliases_in, backward_text, conjunct_text, cost_text, keys_text, scan_name, with_commas}
use Rattle.plan_check.specs.work.Views.{entry, node}
use Rattle.plan_check.specs.Certificates.{Side, Node, by_seq, by_index, by_index_only, by_bitmap, by_nest, by_merge, Entry, Certificate}

-- texts in a row: the first behind a text of its own, each other one behind a comma alone
abbrev pub with_bare_commas : List ℕ → List (List ℕ) → List ℕ
with_bare_commas before [] = []
with_bare_commas before (x ∷ xs) = before ++ (x ++ with_bare_commas (codes ",") xs)

-- an entry by its number, as it stands or sorted
abbrev pub side_text : Side → List ℕ
side_text s = cond s.sorted (codes "sort ") [] ++ decimal s.entry

-- two numbers in a row
abbrev pub two_numbers : ℕ → ℕ → List ℕ
two_numbers first second = decimal first ++ (codes " " ++ decimal second)

-- the two sides of a nested loop
abbrev pub nest_text : ℕ → ℕ → List ℕ
nest_text outer inner = codes "Nested Loop " ++ two_numbers outer inner

-- the two sides of a merge
abbrev pub sides_text : Side → Side → List ℕ
sides_text outer inner = codes " " ++ (side_text outer ++ (codes " " ++ side_text inner))

-- the first line of a certificate of a query with a window; without one there is none
abbrev pub head_text : Option Window → List ℕ
head_text None = []
head_text (Some w) = codes "certificate 2\n"

-- no byte is LF
abbrev pub is_line : List ℕ → Bool
is_line text = list_all (λ b. not (b == 10)) text

-- a line with its LF
abbrev pub ended : List ℕ → List ℕ
ended line = line ++ codes "\n"

-- the line of the best plan, without LF
abbrev pub best_line : Side → List ℕ
best_line s = codes "best " ++ side_text s

module _ (q : Query) where
  -- the aliases of the relations of a set, in FROM order
  abbrev pub alias_list : Set → List ℕ
  alias_list s = with_bare_commas [] (aliases_in 0 s q.range)

  -- a set by them
  abbrev pub set_text : RelSet → List ℕ
  set_text s = codes "{" ++ (alias_list (has s.0) ++ codes "}")

  -- a parameterisation, where there is one
  abbrev pub param_text : RelSet → List ℕ
  param_text p = cond (is_empty p) [] (codes " for " ++ set_text p)

module _ (c : Contents) where
  -- a scan by an index
  abbrev pub by_index_text : Bool → IndexNo → Bool → List ℕ
  by_index_text only i backward = scan_name only ++ (backward_text backward ++ (codes " using " ++ index_name_at c i))

  -- the entries of an index, in a bitmap tree
  abbrev pub leaf_text : IndexNo → List ℕ
  leaf_text i = codes "Index " ++ index_name_at c i

  -- the entries of some indexes
  abbrev pub leaf_texts : List IndexNo → List ℕ
  leaf_texts is = with_commas [] (map leaf_text is)

module _ (c : Contents) (q : Query) where
  -- an OR by the number of its conjunct, with an index for each arm
  abbrev pub or_text : ℕ → List IndexNo → List ℕ
  or_text n is = codes "Or " ++ (conjunct_text q n ++ (codes "(" ++ (leaf_texts c is ++ codes ")")))

  -- a bitmap tree in one line
  abbrev mutual
    pub tree_text : BitTree → List ℕ
    tree_text (leaf i) = leaf_text c i
    tree_text (all_hold bs) = codes "And(" ++ (with_commas [] (tree_texts bs) ++ codes ")")
    tree_text (some_arm n is) = or_text n is

    pub tree_texts : BitTrees → List (List ℕ)
    tree_texts no_trees = []
    tree_texts (tree_and b bs) = tree_text b ∷ tree_texts bs

  -- what an entry of a set is
  abbrev pub node_text : RelSet → Node → List ℕ
  node_text s by_seq = codes "Seq Scan"
  node_text s (by_index i backward) = by_index_text c false i backward
  node_text s (by_index_only i backward) = by_index_text c true i backward
  node_text s (by_bitmap bits) = codes "Bitmap Heap Scan " ++ tree_text bits
  node_text s (by_nest a b) = nest_text a b
  node_text s (by_merge keys a b) = codes "Merge Join by " ++ (keys_text c q (has s.0) keys ++ sides_text a b)

  -- an entry's set, its parameterisation and what it is
  abbrev pub made_text : Entry → List ℕ
  made_text e = set_text q e.set ++ (param_text q e.param ++ (codes " " ++ node_text e.set e.node))

  -- an entry's costs, rows and keys
  abbrev pub measures_text : Entry → List ℕ
  measures_text e =
      codes " cost=" ++ (cost_text q.window (pair e.startup e.cost) ++ (codes " rows=" ++ (decimal e.rows ++ (codes " keys=(" ++ (keys_text c q (has e.set.0) e.keys ++ codes ")")))))

  -- the line of an entry without its number and without LF
  abbrev pub entry_text : Entry → List ℕ
  entry_text e = made_text e ++ measures_text e

  -- the line of the entry of a number, without LF
  abbrev pub entry_line : ℕ → Entry → List ℕ
  entry_line n e = decimal n ++ (codes " " ++ entry_text e)

  -- the line of the entry of a number, with LF
  abbrev pub ended_line : ℕ → Entry → List ℕ
  ended_line n e = ended (entry_line n e)

  -- the lines of entries from a number on, each ended by LF
  abbrev pub entries_text : ℕ → List Entry → List ℕ
  entries_text n [] = []
  entries_text n (e ∷ es) = ended_line n e ++ entries_text (n + 1) es

  -- the text of a certificate
  abbrev pub certificate_text : Certificate → List ℕ
  certificate_text t = head_text q.window ++ (entries_text 1 t.entries ++ ended (best_line t.best))
