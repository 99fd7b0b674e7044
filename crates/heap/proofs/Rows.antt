-- Rows of values, field by field, and rows of records, one by one.
use Rattle.std.proofs.Common.{◌≡◌, ◌-◌, ℕ, zero, suc, ◌<◌, ◌≤◌, ◌+◌, Bool, true, false, cond, List, [], ◌∷◌, ◌++◌, length, take, drop, get_or, slice_get, refl, sym, ap, ap₂, subst, ◌∙◌, arith, Some, Ok, Err, Result, append-nil, append_assoc, drop_of_length-le}
use Rattle.std.specs.Prelude.{nat_lt, nat_eq}
use Rattle.std.specs.List.{AllZip}
use Rattle.std.proofs.lemmas.List.{drop_more, take_more}
use Rattle.std.proofs.lemmas.Option.{get_or_from_slice_get}
use Rattle.std.proofs.lemmas.Bool.Decides.{nat_tests}
use Rattle.csv.specs.Reading.{Reached, default_config, records, records_from}
use Rattle.csv.specs.declared.parser.State.{State}
use Rattle.csv.specs.declared.parser.State.TheVariants.{StartRecord}
use Rattle.heap.proofs.Records.{more_records}
use Rattle.csv.specs.Records.{field_at}
use Rattle.pg_value.specs.declared.columns.Column.{Column}
use Rattle.pg_value.specs.declared.value.Value.{Value}
use Rattle.heap.specs.declared.fault.CopyFault.{CopyFault}
use Rattle.heap.specs.declared.fault.CopyFault.TheVariants.{Arity, TooMany}
use Rattle.heap.specs.Loading.{first_fault_or_all, field, values_from, row, rows_from}
use Rattle.heap.specs.Stored.{Values, IsColumnValue}

pub field_there : (fields : List (List ℕ)) (i : ℕ) → field_at fields i ≡ slice_get fields i
unfolding field_at
field_there [] i = refl
field_there (f ∷ fs) zero = refl
field_there (f ∷ fs) (suc i) = field_there fs i

-- values that were read, before what the rest gives
abbrev pub prepended : {A : Type 0} → List A → Result (List A) CopyFault → Result (List A) CopyFault
prepended xs (Err e) = Err e
prepended xs (Ok ys) = Ok (xs ++ ys)

pub prepended-more : {A : Type 0} (xs : List A) (x : A) (rest : Result (List A) CopyFault) → prepended xs (first_fault_or_all (Ok x) rest) ≡ prepended (xs ++ x ∷ []) rest
prepended-more xs x (Err e) = refl
prepended-more xs x (Ok ys) = ap (λ (l : List _). Ok l) (sym (append_assoc xs (x ∷ []) ys))

pub values-more : (rec i : ℕ) (cs : List Column) (fs : List (List ℕ)) (d : Column) (f : List ℕ) → i < length cs → i < length fs → slice_get fs i ≡ Some f
    → values_from rec i (drop i cs) (drop i fs) ≡ first_fault_or_all (field rec (record { 0 = i }) (get_or cs i d) f) (values_from rec (i + 1) (drop (i + 1) cs) (drop (i + 1) fs))
unfolding values_from
values-more rec i cs fs d f lc lf ef = ap₂ (values_from rec i) (drop_more cs i d lc) (drop_more fs i f lf ∙ ap (λ (x : List ℕ). x ∷ drop (i + 1) fs) (get_or_from_slice_get fs i f f ef))

zip_push : (cs : List Column) (vs : Values) (c : Column) (v : Value) → AllZip IsColumnValue cs vs → IsColumnValue c v → AllZip IsColumnValue (cs ++ c ∷ []) (vs ++ v ∷ [])
zip_push [] [] c v all one = (one, tt)
zip_push [] (w ∷ vs) c v all one = absurd all
zip_push (d ∷ cs) [] c v all one = absurd all
zip_push (d ∷ cs) (w ∷ vs) c v all one = (all.0, zip_push cs vs c v all.1 one)

pub zip_length : (cs : List Column) (vs : Values) → AllZip IsColumnValue cs vs → length vs ≡ length cs
zip_length [] [] all = refl
zip_length [] (w ∷ vs) all = absurd all
zip_length (d ∷ cs) [] all = absurd all
zip_length (d ∷ cs) (w ∷ vs) all = ap suc (zip_length cs vs all.1)

pub zip-more : (cs : List Column) (vs : Values) (i : ℕ) (d : Column) (v : Value) → i < length cs → AllZip IsColumnValue (take i cs) vs → IsColumnValue (get_or cs i d) v → AllZip IsColumnValue (take (i + 1) cs) (vs ++ v ∷ [])
zip-more cs vs i d v lt all one = subst (λ (l : List Column). AllZip IsColumnValue l (vs ++ v ∷ [])) (sym (take_more cs i d lt)) (zip_push (take i cs) vs (get_or cs i d) v all one)

-- the end of the columns
pub values-all : (rec i : ℕ) (cs : List Column) (fs : List (List ℕ)) (vs : Values) → length cs ≤ i → prepended vs (values_from rec i (drop i cs) (drop i fs)) ≡ Ok vs
unfolding values_from
values-all rec i cs fs vs le =
    ap (λ (l : List Column). prepended vs (values_from rec i l (drop i fs))) (drop_of_length-le cs le) ∙ ap (λ (l : Values). Ok l) (append-nil vs)

module _ (columns : List Column) (room rec : ℕ) (fields : List (List ℕ)) where
  pub row_full : room < rec → row columns room rec fields ≡ Err (TooMany rec)
  unfolding row
  row_full h =
      let full : nat_lt room rec ≡ true = grind (arith, nat_tests) in
      ap (λ (b : Bool). cond b (Err (TooMany rec)) (cond (nat_eq (length fields) (length columns)) (values_from rec 0 columns fields) (Err (Arity rec)))) full

  row_there : rec ≤ room → row columns room rec fields ≡ cond (nat_eq (length fields) (length columns)) (values_from rec 0 columns fields) (Err (Arity rec))
  unfolding row
  row_there h =
      let full : nat_lt room rec ≡ false = grind (arith, nat_tests) in
      ap (λ (b : Bool). cond b (Err (TooMany rec)) (cond (nat_eq (length fields) (length columns)) (values_from rec 0 columns fields) (Err (Arity rec)))) full

  pub row_arity : rec ≤ room → (length fields ≡ length columns → ⊥) → row columns room rec fields ≡ Err (Arity rec)
  row_arity h other =
      let differ : nat_eq (length fields) (length columns) ≡ false = grind (arith, nat_tests) in
      row_there h ∙ ap (λ (b : Bool). cond b (values_from rec 0 columns fields) (Err (Arity rec))) differ

  pub row_values : rec ≤ room → length fields ≡ length columns → row columns room rec fields ≡ values_from rec 0 columns fields
  row_values h same =
      let alike : nat_eq (length fields) (length columns) ≡ true = grind (arith, nat_tests) in
      row_there h ∙ ap (λ (b : Bool). cond b (values_from rec 0 columns fields) (Err (Arity rec))) alike

-- rows of records
joined_ok : {A : Type 0} (a : Result A CopyFault) (b : Result (List A) CopyFault) (xs : List A) → first_fault_or_all a b ≡ Ok xs → (v : A) × (vs : List A) × (a ≡ Ok v) × (b ≡ Ok vs) × (v ∷ vs ≡ xs)
joined_ok (Ok v) (Ok vs) xs h = (v, vs, refl, refl, cc)
joined_ok (Ok v) (Err e) xs h = cc
joined_ok (Err e) b xs h = cc

pub prepended-none : {A : Type 0} (r : Result (List A) CopyFault) → r ≡ prepended [] r
prepended-none (Ok xs) = refl
prepended-none (Err e) = refl

prepended-first : {A : Type 0} (v : A) (vs : List A) (r : Result (List A) CopyFault) → first_fault_or_all (Ok v) (prepended vs r) ≡ prepended (v ∷ vs) r
prepended-first v vs (Ok xs) = refl
prepended-first v vs (Err e) = refl

ok_same : {A : Type 0} (xs ys : List A) → ◌≡◌ {A = Result (List A) CopyFault} (Ok xs) (Ok ys) → xs ≡ ys
ok_same xs ys h = cc

pub rows-more : (columns : List Column) (room k : ℕ) (rs tail : List (List (List ℕ))) (xs : List Values) → rows_from columns room k rs ≡ Ok xs
    → rows_from columns room k (rs ++ tail) ≡ prepended xs (rows_from columns room (k + length rs) tail)
unfolding rows_from
rows-more columns room k [] tail xs h =
    let none : [] ≡ xs = ok_same [] xs h in
    ap (λ (n : ℕ). rows_from columns room n tail) (omega arith) ∙ prepended-none _ ∙ ap (λ (l : List Values). prepended l (rows_from columns room (k + 0) tail)) none
rows-more columns room k (r ∷ rs) tail xs h =
    let parts = joined_ok (row columns room k r) (rows_from columns room (k + 1) rs) xs h in
    ap₂ first_fault_or_all parts.2 (rows-more columns room (k + 1) rs tail parts.1 parts.3)
    ∙ prepended-first parts.0 parts.1 (rows_from columns room (k + 1 + length rs) tail)
    ∙ ap₂ prepended parts.4 (ap (λ (n : ℕ). rows_from columns room n tail) (omega arith))

module _ (columns : List Column) (room : ℕ) (rs : List (List (List ℕ))) (xs : List Values) (so_far : rows_from columns room 1 rs ≡ Ok xs) (fields : List (List ℕ)) where
  pub rows-one : (v : Values) → row columns room (length rs + 1) fields ≡ Ok v → rows_from columns room 1 (rs ++ fields ∷ []) ≡ Ok (xs ++ v ∷ [])
  unfolding rows_from
  rows-one v h =
      rows-more columns room 1 rs (fields ∷ []) xs so_far
      ∙ ap (λ (r : Result Values CopyFault). prepended xs (first_fault_or_all r (Ok []))) (ap (λ (n : ℕ). row columns room n fields) (omega arith) ∙ h)

  rows-fault : (e : CopyFault) (tail : List (List (List ℕ))) → row columns room (length rs + 1) fields ≡ Err e → rows_from columns room 1 ((rs ++ fields ∷ []) ++ tail) ≡ Err e
  unfolding rows_from
  rows-fault e tail h =
      ap (rows_from columns room 1) (append_assoc rs (fields ∷ []) tail)
      ∙ rows-more columns room 1 rs (fields ∷ tail) xs so_far
      ∙ ap (λ (r : Result Values CopyFault). prepended xs (first_fault_or_all r (rows_from columns room (1 + length rs + 1) tail))) (ap (λ (n : ℕ). row columns room n fields) (omega arith) ∙ h)

-- the first fault of a block is that of the record behind those that were read
pub rows-refused : (columns : List Column) (room : ℕ) (xs ys : List ℕ) (s : State) (rs : List (List (List ℕ))) (vs : List Values) (fields : List (List ℕ)) (e : CopyFault) → rows_from columns room 1 rs ≡ Ok vs
    → Reached default_config StartRecord xs (rs ++ fields ∷ []) s ys → row columns room (length rs + 1) fields ≡ Err e → rows_from columns room 1 (records default_config xs) ≡ Err e
rows-refused columns room xs ys s rs vs fields e so_far reached h =
    ap (rows_from columns room 1) (more_records xs ys s (rs ++ fields ∷ []) reached)
    ∙ rows-fault columns room rs vs so_far fields e (records_from default_config (length xs + 1 - length (rs ++ fields ∷ [])) s ys) h
