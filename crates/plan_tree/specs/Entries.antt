-- The entries of an index over what is stored (PostgreSQL manual, chapter Indexes; equal keys in row order is own).
use Rattle.std.specs.Prelude.{ℕ, Bool, true, List, [], length, map, filter, slice_index_or, Option, Some, None}
use Rattle.std.specs.List.{range_with_len}
use Rattle.pg_base.specs.declared.numbers.ColNo.{ColNo}
use Rattle.pg_base.specs.declared.numbers.IndexNo.{IndexNo}
use Rattle.sql_query.specs.pg_value_value_Value.{Value}
use Rattle.sql_query.specs.pg_value_value_Value_TheVariants.{Null}
use Rattle.sql_query.specs.pg_value_Sorting.{in_order}
use Rattle.sql_query.specs.pg_value_Truths.{is_true}
use Rattle.sql_query.specs.opfamily_KeyOrder.{IndexEntry, entry_order}
use Rattle.sql_query.specs.opfamily_classes_IndexKey.{IndexKey}
use Rattle.sql_query.specs.opfamily_classes_Method.{Method}
use Rattle.sql_query.specs.opfamily_classes_Method_TheVariants.{Btree, Hash}
use Rattle.pg_expr.specs.declared.operand.ColRef.{ColRef}
use Rattle.pg_expr.specs.Cond.{Cond}
use Rattle.pg_expr.specs.Truths.{truth_at}
use Rattle.sql_query.specs.heap_Stored.{Values}
use Rattle.sql_query.specs.catalog_Contents.{index_at}
use Rattle.sql_query.specs.catalog_Indexes.{Index}
use Rattle.sql_query.specs.Worlds.{World, stored_at}

-- the value of a column in a row
abbrev pub cell : Values → ColNo → Value
cell row n = slice_index_or row n.0 Null

-- the predicate of an index, if it has one, is True at a row
abbrev pub meets_predicate : Option Cond → Values → Bool
meets_predicate None row = true
meets_predicate (Some e) row = is_true (truth_at (λ (x : ColRef). cell row x.col) e)

-- the entry of a row: its number, its key values, and the values that the index includes
abbrev pub entry : Index → List Values → ℕ → IndexEntry
entry d rows n = record {
  row = n;
  keys = map (λ (k : IndexKey). cell (slice_index_or rows n []) k.col) d.keys;
  include = map (cell (slice_index_or rows n [])) d.include;
}

-- a B-tree has its entries in the order of its keys, equal ones by row; a hash index has them by row
abbrev pub ordered : Method → List IndexKey → List IndexEntry → List IndexEntry
ordered Btree ks es = in_order (entry_order ks) es
ordered Hash ks es = es

-- the entries of an index over the rows of its table: those of the rows at which its predicate is True
abbrev pub entries_over : Index → List Values → List IndexEntry
entries_over d rows = ordered d.method d.keys (map (entry d rows) (filter (λ n. meets_predicate d.predicate (slice_index_or rows n [])) (range_with_len 0 (length rows))))

-- the entries of an index of the catalogue over the rows that are stored of its table
abbrev pub entries : World → IndexNo → List IndexEntry
entries w i = entries_over (index_at w.contents i) (stored_at w (index_at w.contents i).table).rows

-- the rows of the entries, in their order
abbrev pub entry_rows : World → IndexNo → List ℕ
entry_rows w i = map (λ (e : IndexEntry). e.row) (entries w i)
