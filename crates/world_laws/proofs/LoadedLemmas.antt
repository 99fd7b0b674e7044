-- What is loaded into lawful data is lawful.
use Rattle.std.proofs.Common.{◌≡◌, ◌+◌, ◌-◌, ◌≤◌, ◌∙◌, ℕ, Bool, true, false, cond, List, [], ◌∷◌, ◌++◌, length, length-append, Result, Ok, Err, refl, sym, ap, subst, arith, All}
use Rattle.std.specs.Prelude.{nat_eq, nat_lt}
use Rattle.std.specs.Str.{bytes_eq}
use Rattle.std.proofs.lemmas.Bool.Decides.{nat_tests}
use Rattle.std.proofs.lemmas.List.Elements.{All-append, All-cons, All-nil}
use Rattle.pg_base.specs.declared.limits.TheConstants.{MOST_ROWS}
use Rattle.pg_base.specs.declared.numbers.ColNo.{ColNo}
use Rattle.pg_value.specs.Fields.{field_value, null_text}
use Rattle.pg_value.proofs.FieldLemmas.{field-typed}
use Rattle.pg_value.specs.declared.columns.Column.{Column}
use Rattle.pg_value.specs.declared.fields.FieldFault.{FieldFault}
use Rattle.pg_value.specs.declared.fields.FieldFault.TheVariants.{Invalid, Memory, Range}
use Rattle.pg_value.specs.declared.value.Value.{Value}
use Rattle.pg_value.specs.declared.value.Value.TheVariants.{Null}
use Rattle.heap.specs.declared.fault.CopyFault.{CopyFault}
use Rattle.heap.specs.declared.fault.CopyFault.TheVariants.{Arity, IsNull, TooLong, TooMany}
use Rattle.heap.specs.Loading.{field, is_long, first_fault_or_all, loaded, at_field, row, rows_from, values_from, with_rows}
use Rattle.heap.specs.Stored.{IsColumnValue, IsLawfulData, IsRowOf, Stored, Values}
use Rattle.heap.proofs.Fields.{field_null, field_other, read_lawful}

placed-ok : (rec : ℕ) (col : ColNo) (r : Result Value FieldFault) (v : Value) → at_field rec col r ≡ Ok v → r ≡ Ok v
placed-ok rec col (Ok u) v is = let same : u ≡ v = cc (is) in ap Ok same
placed-ok rec col (Err Range) v is = absurd (cc (is))
placed-ok rec col (Err Invalid) v is = absurd (cc (is))
placed-ok rec col (Err Memory) v is = absurd (cc (is))

null-held : (rec : ℕ) (col : ColNo) (column : Column) (b : Bool) (v : Value) → column.not_null ≡ b → cond b (Err (IsNull rec col)) (Ok Null) ≡ Ok v → IsColumnValue column v
null-held rec col column true v strict is = absurd (cc (is))
null-held rec col column false v strict is = let same : Null ≡ v = cc (is) in subst (IsColumnValue column) same strict

short-held : (rec : ℕ) (col : ColNo) (column : Column) (text : List ℕ) (b : Bool) (v : Value) → bytes_eq text null_text ≡ false → is_long column.typed text ≡ b →
    cond b (Err (TooLong rec col)) (at_field rec col (field_value column.typed text)) ≡ Ok v → IsColumnValue column v
short-held rec col column text true v plain long is = absurd (cc (is))
short-held rec col column text false v plain short is =
    let read = placed-ok rec col (field_value column.typed text) v is in
    read_lawful column text v plain short read (field-typed column.typed text v read)

field-by : (rec : ℕ) (col : ColNo) (column : Column) (text : List ℕ) (b : Bool) (v : Value) → bytes_eq text null_text ≡ b → field rec col column text ≡ Ok v → IsColumnValue column v
field-by rec col column text true v null is = null-held rec col column column.not_null v refl (sym (field_null rec col column text null) ∙ is)
field-by rec col column text false v plain is =
    short-held rec col column text (is_long column.typed text) v plain refl (sym (field_other rec col column text plain) ∙ is)

-- the parts of a list of answers that are all good
record Joined {A : Type 0} (first : Result A CopyFault) (rest : Result (List A) CopyFault) (all : List A) : Type 0 where
  head : A
  tail : List A
  first-is : first ≡ Ok head
  rest-is : rest ≡ Ok tail
  all-is : all ≡ head ∷ tail

joined-parts : {A : Type 0} (first : Result A CopyFault) (rest : Result (List A) CopyFault) (all : List A) → first_fault_or_all first rest ≡ Ok all → Joined first rest all
joined-parts (Err e) rest all is = absurd (cc (is))
joined-parts (Ok v) (Err e) all is = absurd (cc (is))
joined-parts (Ok v) (Ok vs) all is = record { head = v; tail = vs; first-is = refl; rest-is = refl; all-is = cc (is) }

-- the values of fields are those that their columns may hold
values-held : (rec n : ℕ) (columns : List Column) (fields : List (List ℕ)) (vs : Values) → length fields ≡ length columns → values_from rec n columns fields ≡ Ok vs → IsRowOf columns vs
unfolding values_from
values-held rec n [] fields vs many is = let none : vs ≡ [] = cc (is) in subst (IsRowOf []) (sym none) tt
values-held rec n (c ∷ cs) [] vs many is = absurd (omega (arith, many))
values-held rec n (c ∷ cs) (f ∷ fs) vs many is =
    let parts = joined-parts (field rec (record { 0 = n }) c f) (values_from rec (n + 1) cs fs) vs is in
    subst (IsRowOf (c ∷ cs)) (sym parts.all-is) (field-by rec (record { 0 = n }) c f (bytes_eq f null_text) parts.head refl parts.first-is, values-held rec (n + 1) cs fs parts.tail (omega (arith, many)) parts.rest-is)

width-by : (columns : List Column) (rec : ℕ) (fields : List (List ℕ)) (b : Bool) (vs : Values) → nat_eq (length fields) (length columns) ≡ b → cond b (values_from rec 0 columns fields) (Err (Arity rec)) ≡ Ok vs → IsRowOf columns vs
width-by columns rec fields false vs other is = absurd (cc (is))
width-by columns rec fields true vs same is = let many : length fields ≡ length columns = grind (arith, nat_tests) in values-held rec 0 columns fields vs many is

room-by : (columns : List Column) (room rec : ℕ) (fields : List (List ℕ)) (b : Bool) (vs : Values) → nat_lt room rec ≡ b →
    cond b (Err (TooMany rec)) (cond (nat_eq (length fields) (length columns)) (values_from rec 0 columns fields) (Err (Arity rec))) ≡ Ok vs → (rec ≤ room) × IsRowOf columns vs
room-by columns room rec fields true vs past is = absurd (cc (is))
room-by columns room rec fields false vs within is = let some : rec ≤ room = grind (arith, nat_tests) in (some, width-by columns rec fields (nat_eq (length fields) (length columns)) vs refl is)

row-held : (columns : List Column) (room rec : ℕ) (fields : List (List ℕ)) (vs : Values) → row columns room rec fields ≡ Ok vs → (rec ≤ room) × IsRowOf columns vs
unfolding row
row-held columns room rec fields vs is = room-by columns room rec fields (nat_lt room rec) vs refl is

-- rows that are read are rows of the columns, and there is room for them
rows-held : (columns : List Column) (room rec : ℕ) (rs : List (List (List ℕ))) (rows : List Values) → 1 ≤ rec → rec ≤ room + 1 → rows_from columns room rec rs ≡ Ok rows → (length rows + rec ≤ room + 1) × All (IsRowOf columns) rows
unfolding rows_from
rows-held columns room rec [] rows some here is =
    let none : rows ≡ [] = cc (is) in
    (let long = ap length none in omega (arith, long, here), subst (All (IsRowOf columns)) (sym none) (All-nil (IsRowOf columns)))
rows-held columns room rec (r ∷ rs) rows some here is =
    let parts = joined-parts (row columns room rec r) (rows_from columns room (rec + 1) rs) rows is in
    let first = row-held columns room rec r parts.head parts.first-is in
    let later = rows-held columns room (rec + 1) rs parts.tail (omega arith) (omega (arith, first.0)) parts.rest-is in
    let long = ap length parts.all-is in
    (omega (arith, long, later.0), subst (All (IsRowOf columns)) (sym parts.all-is) (All-cons (IsRowOf columns) parts.head parts.tail first.1 later.1))

with-held : (h s : Stored) (r : Result (List Values) CopyFault) → IsLawfulData h → ((rows : List Values) → r ≡ Ok rows → (length rows ≤ MOST_ROWS - length h.rows) × All (IsRowOf h.columns) rows) → with_rows h r ≡ Ok s → IsLawfulData s × (s.columns ≡ h.columns)
with-held h s (Err e) lawful held is = absurd (cc (is))
with-held h s (Ok rows) lawful held is =
    let same : record { columns = h.columns; rows = h.rows ++ rows } ≡ s = cc (is) in
    let more = held rows refl in
    let few = lawful.few in
    let long = length-append h.rows rows in
    (subst IsLawfulData same (record { few = omega (arith, long, few, more.0); each = All-append (IsRowOf h.columns) h.rows rows lawful.each more.1 }), sym (ap (λ (x : Stored). x.columns) same))

-- a block without fault leaves lawful data lawful
pub loaded-lawful : (h s : Stored) (rs : List (List (List ℕ))) → IsLawfulData h → loaded h rs ≡ Ok s → IsLawfulData s × (s.columns ≡ h.columns)
loaded-lawful h s rs lawful is =
    with-held h s (rows_from h.columns (MOST_ROWS - length h.rows) 1 rs) lawful
    (λ rows e. let held = rows-held h.columns (MOST_ROWS - length h.rows) 1 rs rows (omega arith) (omega arith) e in (omega (arith, held.0), held.1)) is
