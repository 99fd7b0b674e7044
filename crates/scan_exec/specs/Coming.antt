-- The rows that a scan comes to one after another, what it counts for each, and which of them it gives. Own; how each scan
-- works is PostgreSQL's (manual, Using EXPLAIN; chapter Indexes).
use Rattle.std.specs.Prelude.{ℕ, Bool, true, false, ◌&&◌, List, [], map, filter, cond, length}
use Rattle.pg_base.specs.Sets.{has}
use Rattle.pg_base.specs.declared.numbers.RelNo.{RelNo}
use Rattle.pg_base.specs.declared.numbers.IndexNo.{IndexNo}
use Rattle.pg_base.specs.declared.rel_set.RelSet.{RelSet}
use Rattle.opfamily.specs.declared.classes.Method.{Method}
use Rattle.opfamily.specs.declared.classes.Method.TheVariants.{Btree, Hash}
use Rattle.pg_expr.specs.Cond.{Cond}
use Rattle.catalog.specs.Contents.{index_at}
use Rattle.index_match.specs.Numbered.{base, conditions_of}
use Rattle.index_match.specs.Bounds.{index_bounds}
use Rattle.sql_query.specs.Queries.{Query}
use Rattle.sql_query.specs.Worlds.{World}
use Rattle.sql_query.specs.Tuples.{Tuple, beside, row_numbers}
use Rattle.sql_query.specs.Meaning.{all_true}
use Rattle.plan_tree.specs.Plans.{Plan, seq, index, index_only, bitmap, sort, nest, merge}
use Rattle.plan_tree.specs.Entries.{entry_rows}
use Rattle.plan_tree.specs.Run.{at_which, clauses_at, index_scan_conditions, in_scan_direction, held, met}

-- a row that a scan comes to: whether a cursor gives an entry for it, whether it is fetched, and whether the scan gives it
pub record Coming : Type 0 where
  pub row : ℕ
  pub looked : Bool
  pub fetched : Bool
  pub given : Bool

-- the scan gives the row: all that it tests is True there
abbrev pub is_given : Coming → Bool
is_given c = c.given

-- the row fetches that coming to all of them takes
abbrev pub owed : List Coming → ℕ
owed cs = length (filter (λ (c : Coming). c.fetched) cs)

module _ (w : World) (q : Query) where
  -- a row that is fetched for its number, and given where conditions are True
  abbrev pub fetched_row : RelNo → Tuple → List Cond → ℕ → Coming
  fetched_row r o es row = record { row = row; looked = false; fetched = true; given = all_true w q (beside q r.0 row o) es }

  -- a row of an entry that meets the bounds: where the entry meets all conditions it is fetched, but by an index-only scan,
  -- and it is given where its relation's clauses are True as well
  abbrev pub entry_row : RelNo → IndexNo → Bool → RelSet → Tuple → ℕ → Coming
  entry_row r i only p o row = record {
    row = row;
    looked = true;
    fetched = cond only false (all_true w q (beside q r.0 row o) (index_scan_conditions w q r i p));
    given = all_true w q (beside q r.0 row o) (index_scan_conditions w q r i p) && all_true w q (beside q r.0 row o) (clauses_at w q r p);
  }

  -- the rows of the entries that meet the bounds
  abbrev pub bounded : RelNo → IndexNo → RelSet → Tuple → List ℕ
  bounded r i p o = at_which w q r o (conditions_of (index_bounds w.contents q.classes i r.0 (has p.0))) (entry_rows w i)

  -- a B-tree comes to the entries that meet the bounds, in its direction; a hash index to the rows of its one condition
  abbrev pub index_coming : Method → RelNo → IndexNo → Bool → RelSet → Tuple → List Coming
  index_coming Btree r i backward p o = map (entry_row r i false p o) (in_scan_direction w q backward (bounded r i p o))
  index_coming Hash r i backward p o = map (fetched_row r o (clauses_at w q r p)) (in_scan_direction w q backward (met w q r i p o))

  -- the rows that a scan comes to, where a tuple binds its parameterisation; a plan that is no scan comes to none
  abbrev pub coming : Plan → Tuple → List Coming
  coming (seq r) o = map (fetched_row r o (conditions_of (base q.classes r.0))) (row_numbers w q r)
  coming (index r i backward p) o = index_coming (index_at w.contents i).method r i backward p o
  coming (index_only r i backward p) o = map (entry_row r i true p o) (in_scan_direction w q backward (bounded r i p o))
  coming (bitmap r p bits) o = map (fetched_row r o (clauses_at w q r p)) (held w q r p bits o)
  coming (sort keys input) o = []
  coming (nest outer inner) o = []
  coming (merge keys outer inner) o = []
