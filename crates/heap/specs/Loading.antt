-- The rows that COPY data stand for, or the first fault of the data (PostgreSQL manual, COPY; `\N` is NULL in quotes too, own).
use Rattle.std.specs.Prelude.{ℕ, ◌+◌, ◌-◌, Bool, false, cond, List, [], ◌∷◌, ◌++◌, length, nat_lt, nat_eq, Ok, Err}
use Rattle.std.specs.declared.result.Result.{Result}
use Rattle.std.specs.Str.{bytes_eq}
use Rattle.csv.specs.Reading.{default_config, records, strip_bom}
use Rattle.pg_base.specs.declared.limits.TheConstants.{MOST_ROWS, MOST_TEXT_BYTES}
use Rattle.pg_base.specs.declared.numbers.ColNo.{ColNo}
use Rattle.pg_value.specs.Fields.{field_value}
use Rattle.pg_value.specs.declared.columns.Column.{Column}
use Rattle.pg_value.specs.declared.fields.FieldFault.{FieldFault}
use Rattle.pg_value.specs.declared.fields.FieldFault.TheVariants as field_fault
use Rattle.pg_value.specs.declared.value.SqlType.{SqlType}
use Rattle.pg_value.specs.declared.value.SqlType.TheVariants.{Text as TextType}
use Rattle.pg_value.specs.declared.value.Value.{Value}
use Rattle.pg_value.specs.declared.value.Value.TheVariants.{Null}
use Rattle.heap.specs.declared.fault.CopyFault.{CopyFault}
use Rattle.heap.specs.declared.fault.CopyFault.TheVariants.{Arity, Range, Invalid, IsNull, TooLong, TooMany, Memory}
use Rattle.heap.specs.Stored.{Stored, Values}
use Rattle.pg_value.specs.Fields.{null_text}

-- the records of a block, each a list of fields: those of CSV without a header row, after a byte order mark if there is one
abbrev pub records_of : List ℕ → List (List (List ℕ))
records_of block = records default_config (strip_bom block)

-- a first answer before the rest: the first fault from the left, else all values
abbrev pub first_fault_or_all : {A : Type 0} → Result A CopyFault → Result (List A) CopyFault → Result (List A) CopyFault
first_fault_or_all (Err e) rest = Err e
first_fault_or_all (Ok v) (Err e) = Err e
first_fault_or_all (Ok v) (Ok vs) = Ok (v ∷ vs)

-- a text that is longer than a text may be
abbrev pub is_long : SqlType → List ℕ → Bool
is_long TextType text = nat_lt MOST_TEXT_BYTES (length text)
is_long t text = false

-- the fault of a field's text, at its place
abbrev pub at_field : ℕ → ColNo → Result Value FieldFault → Result Value CopyFault
at_field rec col (Ok v) = Ok v
at_field rec col (Err field_fault.Range) = Err (Range rec col)
at_field rec col (Err field_fault.Invalid) = Err (Invalid rec col)
at_field rec col (Err field_fault.Memory) = Err Memory

-- the value of a column that a field stands for, or its fault
unfoldable pub field : ℕ → ColNo → Column → List ℕ → Result Value CopyFault
field rec col column text =
    cond (bytes_eq text null_text) (cond column.not_null (Err (IsNull rec col)) (Ok Null))
    (cond (is_long column.typed text) (Err (TooLong rec col)) (at_field rec col (field_value column.typed text)))

-- the values of as many fields as columns, from column number n on
unfoldable pub values_from : ℕ → ℕ → List Column → List (List ℕ) → Result Values CopyFault
values_from rec n (c ∷ cs) (f ∷ fs) = first_fault_or_all (field rec (record { 0 = n }) c f) (values_from rec (n + 1) cs fs)
values_from rec n _ _ = Ok []

-- the row of a record, where there is room for so many, or its first fault
unfoldable pub row : List Column → ℕ → ℕ → List (List ℕ) → Result Values CopyFault
row columns room rec fields =
    cond (nat_lt room rec) (Err (TooMany rec)) (cond (nat_eq (length fields) (length columns)) (values_from rec 0 columns fields) (Err (Arity rec)))

-- the rows of records, the first of which has this number, or the first fault
unfoldable pub rows_from : List Column → ℕ → ℕ → List (List (List ℕ)) → Result (List Values) CopyFault
rows_from columns room rec [] = Ok []
rows_from columns room rec (r ∷ rs) = first_fault_or_all (row columns room rec r) (rows_from columns room (rec + 1) rs)

-- a heap with rows behind its own
abbrev pub with_rows : Stored → Result (List Values) CopyFault → Result Stored CopyFault
with_rows h (Ok rows) = Ok (record h { rows = h.rows ++ rows })
with_rows h (Err e) = Err e

-- a heap after loading records, or the first fault; it has room for as many rows as a table may have
abbrev pub loaded : Stored → List (List (List ℕ)) → Result Stored CopyFault
loaded h rs = with_rows h (rows_from h.columns (MOST_ROWS - length h.rows) 1 rs)
