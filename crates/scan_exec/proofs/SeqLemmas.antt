-- The rows of a relation, drawn from one after another.
use Rattle.std.proofs.Common.{◌≡◌, ◌+◌, ◌-◌, ◌<◌, ◌≤◌, ℕ, suc, Bool, true, false, List, [], ◌∷◌, length, map, find, slice_get, Some, None, option_map, refl, sym, ap, ◌∙◌, subst, arith, All}
use Rattle.std.specs.List.{range_with_len}
use Rattle.std.proofs.lemmas.Option.{get_or_from_slice_get}
use Rattle.catalog.specs.Contents.{Contents}
use Rattle.catalog.specs.Range.{Range}
use Rattle.heap.specs.Stored.{Values}
use Rattle.pg_expr.specs.Cond.{Cond}
use Rattle.scan_probes.specs.work.Scenes.{AreReadyAtRow}
use Rattle.scan_probes.specs.work.Values.{Given}
use Rattle.scan_exec.specs.Coming.{Coming, is_given, owed}
use Rattle.scan_exec.specs.work.Coming.{looks_allowed, behind}
use Rattle.scan_exec.specs.work.Kinds.{fetched_at, passes_row, rows_from}
use Rattle.scan_exec.proofs.DrawLemmas.{IsOnward, onward_by, onward_here, found_here, behind_here, fetched_on}

-- a scan at the row of a number, begun at a list
pub record IsSeqDraw (c : Contents) (range : Range) (r : ℕ) (given : Given) (es : List Cond) (rows : List Values) (at n end : ℕ) (old : List Coming) (f g : ℕ) : Type 0 where
  pub here : at ≡ n
  pub end_is : end ≡ length rows
  pub ready : All (AreReadyAtRow c range r given es) rows
  pub onward : IsOnward old (rows_from r given es rows n) f g 0 0

module _ (r : ℕ) (given : Given) (es : List Cond) (rows : List Values) where
  -- the row of a number, and those behind
  pub row_and_rest : (n : ℕ) → n < length rows → rows_from r given es rows n ≡ fetched_at r given es rows n ∷ rows_from r given es rows (n + 1)
  row_and_rest n lt =
      ap (λ (k : ℕ). map (fetched_at r given es rows) (range_with_len n k)) (let e : length rows - n ≡ suc (length rows - (n + 1)) = omega (arith, lt) in e)

  pub none_behind : (n : ℕ) → length rows ≤ n → rows_from r given es rows n ≡ []
  none_behind n le = ap (λ (k : ℕ). map (fetched_at r given es rows) (range_with_len n k)) (let e : length rows - n ≡ 0 = omega (arith, le) in e)

  -- nothing is looked at
  none_looked : (ns : List ℕ) → looks_allowed (map (fetched_at r given es rows) ns) ≡ 0
  none_looked [] = refl
  none_looked (n ∷ ns) = none_looked ns

  pub unlooked_from : (n : ℕ) → looks_allowed (rows_from r given es rows n) ≡ 0
  unlooked_from n = none_looked (range_with_len n (length rows - n))

  pub seq_begins : (c : Contents) (range : Range) (at end f : ℕ) → end ≡ length rows → All (AreReadyAtRow c range r given es) rows → IsSeqDraw c range r given es rows at at end (rows_from r given es rows at) f f
  seq_begins c range at end f is ready = record { here = refl; end_is = is; ready = ready; onward = onward_here (rows_from r given es rows at) f 0 }

  module _ (c : Contents) (range : Range) (at n end : ℕ) (old : List Coming) (f g : ℕ) (is : IsSeqDraw c range r given es rows at n end old f g) (lt : n < end) where
    within : n < length rows
    within = let e = is.end_is in omega (arith, lt, e)

    at_row : IsOnward old (fetched_at r given es rows n ∷ rows_from r given es rows (n + 1)) f g 0 0
    at_row = subst (λ (l : List Coming). IsOnward old l f g 0 0) (row_and_rest n within) is.onward

    test_is : (row : Values) (b : Bool) → slice_get rows n ≡ Some row → b ≡ passes_row r given es row → (fetched_at r given es rows n).given ≡ b
    test_is row b read e = ap (λ (v : Values). passes_row r given es v) (get_or_from_slice_get rows n row [] read) ∙ sym e

    pub row_ready : (row : Values) (fs : List Cond) → slice_get rows n ≡ Some row → fs ≡ es → AreReadyAtRow c range r given fs row
    row_ready row fs read same =
        let P : List Cond → Type 0 = λ l. AreReadyAtRow c range r given l row in
        subst P (sym same) (subst (AreReadyAtRow c range r given es) (get_or_from_slice_get rows n row row read) (is.ready n row within))

    -- a row that fails
    pub seq_on : (row : Values) (b : Bool) (h : ℕ) → slice_get rows n ≡ Some row → b ≡ passes_row r given es row → b ≡ false → h ≡ g + 1
        → IsSeqDraw c range r given es rows (n + 1) (n + 1) end old f h
    seq_on row b h read e fails cost = record {
      here = refl;
      end_is = is.end_is;
      ready = is.ready;
      onward = onward_by old (rows_from r given es rows (n + 1)) (fetched_at r given es rows n) f g 0 0 at_row (test_is row b read e ∙ fails) h 0 cost refl;
    }

    -- a row that passes
    module _ (row : Values) (b : Bool) (h : ℕ) (read : slice_get rows n ≡ Some row) (e : b ≡ passes_row r given es row) (passes : b ≡ true) (cost : h ≡ g + 1) where
      pub seq_row : Some n ≡ option_map (λ (x : Coming). x.row) (find is_given old)
      seq_row = ap (option_map (λ (x : Coming). x.row)) (sym (found_here old (rows_from r given es rows (n + 1)) (fetched_at r given es rows n) f g 0 0 at_row (test_is row b read e ∙ passes)))

      pub seq_rest : rows_from r given es rows (n + 1) ≡ behind is_given old
      seq_rest = behind_here old (rows_from r given es rows (n + 1)) (fetched_at r given es rows n) f g 0 0 at_row (test_is row b read e ∙ passes)

      pub seq_exact : h + owed (rows_from r given es rows (n + 1)) ≡ f + owed old
      seq_exact = let on = fetched_on old (rows_from r given es rows (n + 1)) (fetched_at r given es rows n) f g 0 0 at_row in omega (arith, on, cost)

  -- at the end
  module _ (c : Contents) (range : Range) (at n end : ℕ) (old : List Coming) (f g : ℕ) (is : IsSeqDraw c range r given es rows at n end old f g) (le : end ≤ n) where
    at_end : rows_from r given es rows n ≡ []
    at_end = none_behind n (let e = is.end_is in omega (arith, le, e))

    pub no_row : None ≡ option_map (λ (x : Coming). x.row) (find is_given old)
    no_row = ap (λ (l : List Coming). option_map (λ (x : Coming). x.row) (find is_given l)) (sym at_end) ∙ ap (option_map (λ (x : Coming). x.row)) is.onward.first

    pub no_rest : rows_from r given es rows at ≡ behind is_given old
    no_rest = ap (rows_from r given es rows) is.here ∙ at_end ∙ ap (behind is_given) (sym at_end) ∙ is.onward.rest

    pub no_more : g + owed (rows_from r given es rows at) ≡ f + owed old
    no_more = ap (λ (k : ℕ). g + owed (rows_from r given es rows k)) is.here ∙ is.onward.fetched
