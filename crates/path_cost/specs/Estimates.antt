-- Estimated rows. Own, in the manner of PostgreSQL's clauselist_selectivity, set_baserel_size_estimates and
-- get_parameterized_baserel_size.
use Rattle.std.specs.Prelude.{ℕ, ◌+◌, ◌*◌, Bool, false, ◌&&◌, cond, nat_eq, List, [], ◌∷◌, map, filter, fold, length, Option, Some, None}
use Rattle.std.specs.List.{list_any, range_with_len}
use Rattle.pg_base.specs.declared.numbers.IndexNo.{IndexNo}
use Rattle.pg_expr.specs.Cond.{Cond}
use Rattle.catalog.specs.Contents.{Contents, index_at}
use Rattle.catalog.specs.Indexes.{Index}
use Rattle.catalog.specs.Range.{Range, relation_at}
use Rattle.catalog.specs.Tables.{rows_of, pages_of}
use Rattle.eq_classes.specs.Clauses.{Clause, Set, ClassTable}
use Rattle.eq_classes.specs.Listing.{pair_class_of, clause_at}
use Rattle.eq_classes.specs.Parts.{is_all, is_join, is_local}
use Rattle.cost_rules.specs.Powers.{clamped}
use Rattle.exact_rows.specs.Rows.{share_kept}
use Rattle.path_cost.specs.Ranges.{conditions}
use Rattle.path_cost.specs.Selectivity.{selectivity, weights}

-- the conditions of the clauses that pass a test, by their numbers
abbrev pub conditions_where : (Clause → Bool) → List Clause → List Cond
conditions_where test clauses = map (λ (k : Clause). k.cond) (filter test clauses)

-- the conditions of a list that have a number of a set, in order; the first of the list has the number given
abbrev pub picked_from : ℕ → (ℕ → Bool) → List Cond → List Cond
picked_from n chosen [] = []
picked_from n chosen (e ∷ es) = cond (chosen n) (e ∷ picked_from (n + 1) chosen es) (picked_from (n + 1) chosen es)

-- the conditions of the clauses of a set of numbers, by their numbers; the first clause of the list has the number given
abbrev pub conditions_from : ℕ → (ℕ → Bool) → List Clause → List Cond
conditions_from n chosen clauses = picked_from n chosen (map (λ (k : Clause). k.cond) clauses)

-- a clause is the pair clause of a class of a list
abbrev pub is_pair_by : Option ℕ → List ℕ → Bool
is_pair_by None keys = false
is_pair_by (Some n) keys = list_any (nat_eq n) keys

-- a clause is a pair clause of one of some classes: a merge by these finds the pairs that meet it
abbrev pub is_pair_of : List ℕ → Clause → Bool
is_pair_of keys k = is_pair_by (pair_class_of k.source) keys

-- the numbers of a set from a number on, of so many, in order
abbrev pub set_numbers_from : ℕ → ℕ → (ℕ → Bool) → List ℕ
set_numbers_from n len set = filter set (range_with_len n len)

-- the numbers of a set's relations, in FROM order
abbrev pub relations : Range → Set → List ℕ
relations range set = set_numbers_from 0 (length range) set

-- a number is that of a clause that passes a test
abbrev pub is_number_where : (Clause → Bool) → ClassTable → ℕ → Bool
is_number_where test t n = test (clause_at t.clauses n)

-- the rows of a relation's table, and its pages
abbrev pub table_rows : Contents → Range → ℕ → ℕ
table_rows c range r = rows_of c (relation_at range (record { 0 = r })).0

-- the heap pages of a relation's table: given, or one for each hundred rows
abbrev pub table_pages : Contents → Range → ℕ → ℕ
table_pages c range r = pages_of c (relation_at range (record { 0 = r })).0

-- what shares, taken in their order, leave of a number of rows of any size: each leaves its part, rounded up; what is left
-- in the end is held from 1 to 10^12
abbrev pub kept : ℕ → List ℕ → ℕ
kept n shares = clamped (fold share_kept n shares)

module _ (c : Contents) (range : Range) where
  -- what the clauses of a set of numbers leave of so many rows: a clause's share is taken from all clauses of the query,
  -- which comes to the same as from those of the set, since each set that is folded has all bounds of a column or none
  abbrev pub kept_by : ℕ → (ℕ → Bool) → ClassTable → ℕ
  kept_by n chosen t = kept n (weights c range (conditions t) (set_numbers_from 0 (length t.clauses) chosen))

  -- what the clauses that pass a test leave of so many rows
  abbrev pub kept_where : ℕ → (Clause → Bool) → ClassTable → ℕ
  kept_where n test t = kept_by n (is_number_where test t) t

  -- what those of some conditions that have a number of a set leave of so many rows
  abbrev pub kept_among : ℕ → (ℕ → Bool) → List Cond → ℕ
  kept_among n chosen es = kept n (weights c range es (set_numbers_from 0 (length es) chosen))

  -- the rows of a product of relations, after some rows
  abbrev pub product_from : ℕ → List ℕ → ℕ
  product_from n rs = fold (λ m r. m * table_rows c range r) n rs

  -- the rows of the product of some relations, however many
  abbrev pub product_rows : List ℕ → ℕ
  product_rows rs = product_from 1 rs

  -- the rows of a set: the product of its relations, after its clauses
  abbrev pub set_rows : ClassTable → Set → ℕ
  set_rows t set = kept_where (product_rows (relations range set)) (is_all set) t

  -- the rows of a relation with the relations of a parameterisation
  abbrev pub param_rows : ClassTable → ℕ → Set → ℕ
  param_rows t r p = kept_where (table_rows c range r) (is_local r p) t

  -- the pairs of rows of two sets that are equal in the classes of a list
  abbrev pub pairs : ClassTable → Set → Set → List ℕ → ℕ
  pairs t a b keys = kept_where (set_rows t a * set_rows t b) (λ k. is_join a b k && is_pair_of keys k) t

-- the entries of an index: the rows of its table at which its predicate, as one condition, is taken to be True; without
-- a predicate all rows
abbrev pub entries_by : Contents → Index → Option Cond → ℕ
entries_by c x None = rows_of c x.table
entries_by c x (Some predicate) = kept (rows_of c x.table) (selectivity c ((x.table, []) ∷ []) predicate ∷ [])

-- the entries that an index of the catalogue is taken to have (reltuples of the index in pg_class)
abbrev pub entry_estimate : Contents → IndexNo → ℕ
entry_estimate c i = entries_by c (index_at c i) (index_at c i).predicate
