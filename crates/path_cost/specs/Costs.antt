-- Costs of scans over a catalogue, a query's relations and its clauses. They are exact: no number is cut. Own, in the
-- manner of PostgreSQL's cost_seqscan, cost_index, cost_bitmap_tree_node and cost_bitmap_heap_scan; the rules for numbers
-- are those of cost_rules.
use Rattle.std.specs.Prelude.{ℕ, ◌+◌, ◌&&◌, min, not, Bool, List, [], ◌∷◌, length}
use Rattle.pg_base.specs.declared.numbers.IndexNo.{IndexNo}
use Rattle.catalog.specs.opfamily_classes_Method.{Method}
use Rattle.catalog.specs.opfamily_classes_Method_TheVariants.{Btree, Hash}
use Rattle.pg_expr.specs.Cond.{Cond}
use Rattle.pg_expr.specs.Columns.{atom_count}
use Rattle.catalog.specs.Contents.{Contents, index_at}
use Rattle.catalog.specs.Range.{Range}
use Rattle.eq_classes.specs.Clauses.{Set, ClassTable}
use Rattle.eq_classes.specs.Listing.{clause_at}
use Rattle.eq_classes.specs.Parts.{is_base, is_local}
use Rattle.cost_rules.specs.declared.pair.Pair.{Pair}
use Rattle.cost_rules.specs.declared.parameters.TheConstants.{HASH_DESCENT}
use Rattle.cost_rules.specs.Scans.{descent_of, part_cost, index_scan_cost, seq_scan_cost, bitmap_scan_cost}
use Rattle.path_cost.specs.Estimates.{conditions_from, conditions_where, entry_estimate, kept_among, kept_by, table_pages, table_rows}
use Rattle.path_cost.specs.Runs.{runs}

-- the operators of conditions: their atoms together
abbrev pub operators : List Cond → ℕ
operators [] = 0
operators (e ∷ es) = atom_count e + operators es

-- the way down an index: through the levels of a B-tree, one step in a hash index
abbrev pub descent_by : Method → ℕ → ℕ
descent_by Btree n = descent_of n
descent_by Hash n = HASH_DESCENT

-- the way down an index of the catalogue, in 1/400 of a sequential page: what an index scan costs before its first row
abbrev pub descent : Contents → IndexNo → ℕ
descent c i = descent_by (index_at c i).method (entry_estimate c i)

-- an index's own part in one of so many runs, where so many rows meet its bounds, so that it looks at as many entries, but at no
-- more than there are, and so many conditions are made on each entry
abbrev pub part_within : Contents → ℕ → IndexNo → ℕ → ℕ → ℕ
part_within c runs i within n = part_cost runs (descent c i) (min (entry_estimate c i) within) (entry_estimate c i) n

module _ (c : Contents) (range : Range) (t : ClassTable) where
  -- the operators of a relation's clauses, with those of its parameterisation
  abbrev pub local_operators : ℕ → Set → ℕ
  local_operators r p = operators (conditions_where (is_local r p) t.clauses)

  -- the operators of a relation's clauses, with those of its parameterisation, that are no conditions of an index
  abbrev pub other_operators : ℕ → Set → (ℕ → Bool) → ℕ
  other_operators r p conditions = operators (conditions_from 0 (λ n. is_local r p (clause_at t.clauses n) && not (conditions n)) t.clauses)

  -- a sequential scan: every page, and each row with the clauses over the relation alone
  abbrev pub seq_cost : ℕ → Pair
  seq_cost r = seq_scan_cost (table_pages c range r) (table_rows c range r) (operators (conditions_where (is_base r) t.clauses))

  -- the rows of a relation after the clauses of a set of numbers
  abbrev pub rows_after : ℕ → (ℕ → Bool) → ℕ
  rows_after r chosen = kept_by c range (table_rows c range r) chosen t

  -- an index's own part where the rows of a parameterisation are given: the clauses of a set of numbers are its bounds,
  -- and those of another its conditions
  abbrev pub index_part : IndexNo → ℕ → Set → (ℕ → Bool) → (ℕ → Bool) → ℕ
  index_part i r p bounds conditions = part_within c (runs c range t p) i (rows_after r bounds) (length (conditions_from 0 conditions t.clauses))

  -- the part of the index that serves an arm of an OR: the arm's parts in order, of which those of these numbers are
  -- bounds and all are conditions
  abbrev pub arm_part : IndexNo → ℕ → Set → List Cond → (ℕ → Bool) → ℕ
  arm_part i r p parts bounds = part_within c (runs c range t p) i (kept_among c range (table_rows c range r) bounds parts) (length parts)

  -- the rows that a scan of an index finds: the entries that meet its conditions
  abbrev pub index_rows_found : IndexNo → ℕ → (ℕ → Bool) → ℕ
  index_rows_found i r conditions = min (entry_estimate c i) (rows_after r conditions)

  -- an index scan: the index's part, the heap pages of the rows found, none where it is index-only, and each of these
  -- rows with the clauses that are no conditions
  abbrev pub index_cost : IndexNo → ℕ → Set → (ℕ → Bool) → (ℕ → Bool) → Bool → Pair
  index_cost i r p bounds conditions only =
      index_scan_cost (runs c range t p) (descent c i) (index_part i r p bounds conditions) only (index_rows_found i r conditions) (table_pages c range r) (other_operators r p conditions)

  -- a bitmap scan over the parts of its indexes: the rows are those after the clauses that it uses, and each is tested by
  -- all clauses of the relation and of the parameterisation
  abbrev pub bitmap_cost : ℕ → Set → (ℕ → Bool) → ℕ → Pair
  bitmap_cost r p used parts = bitmap_scan_cost (runs c range t p) parts (rows_after r used) (table_pages c range r) (local_operators r p)
