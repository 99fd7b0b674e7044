-- What a heap stands for, by the flat list of its values.
use Rattle.std.proofs.Common.{◌≡◌, ℕ, ◌<◌, ◌≤◌, ◌+◌, ◌-◌, ◌*◌, List, length, take, drop, slice_get, Some, Ok, Err, sym, ap, subst, ◌∙◌, arith}
use Rattle.std.specs.List.{All}
use Rattle.std.proofs.lemmas.List.Elements.{All-append, All-get_or, All-take}
use Rattle.std.proofs.lemmas.Option.{get_or_from_slice_get}
use Rattle.pg_base.specs.declared.limits.TheConstants.{MOST_ROWS}
use Rattle.pg_value.specs.declared.columns.Column.{Column}
use Rattle.heap.specs.declared.fault.CopyFault.{CopyFault}
use Rattle.heap.specs.Loading.{loaded, rows_from, with_rows}
use Rattle.heap.specs.work.Loading.{BeginsWith, appended_rows}
use Rattle.heap.specs.Stored.{IsLawfulData, IsRowOf, Stored, Values}
use Rattle.heap.specs.work.Stored.{IsWhole, laid_out}
use Rattle.heap.proofs.AppendedLemmas.{rows-joined}
use Rattle.heap.proofs.RunLemmas.{first-runs, length-runs_of, run-inside, runs-at}

abbrev pub cut_to : ℕ → Stored → Stored
cut_to len s = record { columns = s.columns; rows = take len s.rows }

-- the place of a row's values
pub record RowAt (values : Values) (s : Stored) (t w : ℕ) : Type 0 where
  pub inside : t * w + w ≤ length values
  pub is : slice_get s.rows t ≡ Some (take w (drop (t * w) values))

pub lawful-at : (s : Stored) (t : ℕ) (row : Values) → IsLawfulData s → t < length s.rows → slice_get s.rows t ≡ Some row → IsRowOf s.columns row
lawful-at s t row law lt e = subst (λ (r : Values). IsRowOf s.columns r) (get_or_from_slice_get s.rows t row row e) (All-get_or (IsRowOf s.columns) s.rows t row lt law.each)

module _ (columns : List Column) (count : ℕ) (values : Values) (whole : IsWhole columns count values) where
  abbrev here : Stored
  here = laid_out columns count values

  row-here : (t : ℕ) → t < length here.rows → RowAt values here t (length columns)
  row-here t lt =
      let below : t < count = omega (arith, lt, length-runs_of (length columns) count values) in
      record { inside = omega (arith, run-inside (length columns) count t below, whole); is = runs-at (length columns) count t values below }

  pub row-at : (s : Stored) → here ≡ s → (t w : ℕ) → t < length s.rows → w ≡ length s.columns → RowAt values s t w
  row-at s same t w lt e =
      subst (λ (k : ℕ). RowAt values s t k) (sym e) (subst (λ (z : Stored). t < length z.rows → RowAt values z t (length z.columns)) same (row-here t) lt)

  -- the first rows
  pub cut-here : (len : ℕ) → len ≤ count → laid_out columns len (take (len * length columns) values) ≡ cut_to len here
  cut-here len le = ap (λ (l : List Values). record { columns = columns; rows = l }) (sym (first-runs (length columns) count len values whole le))

  pub cut-lawful : (len : ℕ) → len ≤ count → IsLawfulData here → IsLawfulData (laid_out columns len (take (len * length columns) values))
  cut-lawful len le law = record {
    few = omega (arith, law.few, length-runs_of (length columns) count values, length-runs_of (length columns) len (take (len * length columns) values));
    each = subst (λ (l : List Values). All (IsRowOf columns) l) (first-runs (length columns) count len values whole le) (All-take (IsRowOf columns) len here.rows law.each);
  }

  -- rows that were put behind these, and faults of such
  room : MOST_ROWS - length here.rows ≡ MOST_ROWS - count
  room = ap (λ (k : ℕ). MOST_ROWS - k) (length-runs_of (length columns) count values)

  pub load-here : (records : List (List (List ℕ))) (n : ℕ) (after : Values) → BeginsWith values after → rows_from columns (MOST_ROWS - count) 1 records ≡ Ok (appended_rows columns n values after)
      → loaded here records ≡ Ok (laid_out columns (count + n) after)
  load-here records n after kept read =
      ap (λ (r : ℕ). with_rows here (rows_from columns r 1 records)) room
      ∙ ap (with_rows here) read
      ∙ ap (λ (l : List Values). Ok (record { columns = columns; rows = l })) (sym (rows-joined columns count n values after kept whole))

  pub fault-here : (records : List (List (List ℕ))) (e : CopyFault) → rows_from columns (MOST_ROWS - count) 1 records ≡ Err e → loaded here records ≡ Err e
  fault-here records e read = ap (λ (r : ℕ). with_rows here (rows_from columns r 1 records)) room ∙ ap (with_rows here) read

  pub load-lawful : (n : ℕ) (after : Values) → BeginsWith values after → IsLawfulData here → n ≤ MOST_ROWS - count → All (IsRowOf columns) (appended_rows columns n values after)
      → IsLawfulData (laid_out columns (count + n) after)
  load-lawful n after kept law few each =
      let fits : count ≤ MOST_ROWS = omega (arith, law.few, length-runs_of (length columns) count values) in
      record {
        few = omega (arith, fits, few, length-runs_of (length columns) (count + n) after);
        each = subst (λ (l : List Values). All (IsRowOf columns) l) (sym (rows-joined columns count n values after kept whole))
            (All-append (IsRowOf columns) here.rows (appended_rows columns n values after) law.each each);
      }
