-- One step of a scan: by the number of a row, and by an entry of an index.
use Rattle.std.proofs.Common.{◌≡◌, ◌+◌, ◌<◌, ℕ, Bool, true, false, cond, ◌&&◌, List, [], ◌∷◌, length, map, find, get_or, slice_get, Some, None, option_map, refl, sym, ap, ◌∙◌, subst, arith, All}
use Rattle.std.proofs.lemmas.Option.{get_or_from_slice_get}
use Rattle.std.proofs.lemmas.List.Elements.{All-head, All-tail}
use Rattle.catalog.specs.Contents.{Contents}
use Rattle.catalog.specs.Indexes.{Index}
use Rattle.catalog.specs.Range.{Range}
use Rattle.heap.specs.Stored.{Values}
use Rattle.opfamily.specs.KeyOrder.{IndexEntry}
use Rattle.pg_expr.specs.Cond.{Cond}
use Rattle.scan_probes.specs.work.Scenes.{AreReadyAtEntry, AreReadyAtRow}
use Rattle.scan_probes.specs.work.Values.{Given}
use Rattle.scan_exec.specs.Coming.{Coming, is_given, owed}
use Rattle.scan_exec.specs.work.Coming.{looks_allowed, behind}
use Rattle.scan_exec.specs.work.Kinds.{covered_at, entry_at, fetched_at, passes_entry, passes_row, rows_of}
use Rattle.scan_exec.proofs.DrawLemmas.{IsOnward, onward_by, found_here, behind_here, fetched_on, looked_on}

-- the row of a list is that at its number
pub ready_row : (c : Contents) (range : Range) (r : ℕ) (given : Given) (es fs : List Cond) (rows : List Values) (n : ℕ) (row : Values) → slice_get rows n ≡ Some row → fs ≡ es
    → AreReadyAtRow c range r given es (get_or rows n []) → AreReadyAtRow c range r given fs row
ready_row c range r given es fs rows n row read same ready =
    let P : List Cond → Type 0 = λ l. AreReadyAtRow c range r given l row in
    subst P (sym same) (subst (AreReadyAtRow c range r given es) (get_or_from_slice_get rows n row [] read) ready)

pub ready_entry : (c : Contents) (range : Range) (r : ℕ) (given : Given) (es fs : List Cond) (d : Index) (e : IndexEntry) → fs ≡ es → AreReadyAtEntry c range r given es d e → AreReadyAtEntry c range r given fs d e
ready_entry c range r given es fs d e same ready =
    let P : List Cond → Type 0 = λ l. AreReadyAtEntry c range r given l d e in
    subst P (sym same) ready

-- what all rows are ready for
pub ready_at : (c : Contents) (range : Range) (r : ℕ) (given : Given) (es fs : List Cond) (rows : List Values) (n : ℕ) (row : Values) → slice_get rows n ≡ Some row → fs ≡ es → n < length rows
    → All (AreReadyAtRow c range r given es) rows → AreReadyAtRow c range r given fs row
ready_at c range r given es fs rows n row read same lt ready = ready_row c range r given es fs rows n row read same (ready n [] lt)

-- a list by its first element and those behind
pub ready_first : {A : Type 0} (P : A → Type 0) (xs : List A) (x : A) (ys : List A) → xs ≡ x ∷ ys → All P xs → P x
ready_first P xs x ys split all = All-head P x ys (subst (All P) split all)

pub ready_behind : {A : Type 0} (P : A → Type 0) (xs : List A) (x : A) (ys : List A) → xs ≡ x ∷ ys → All P xs → All P ys
ready_behind P xs x ys split all = All-tail P x ys (subst (All P) split all)

pub onward_split : {A : Type 0} (f : A → Coming) (xs : List A) (x : A) (ys : List A) → xs ≡ x ∷ ys → (old : List Coming) (a b c d : ℕ) → IsOnward old (map f xs) a b c d → IsOnward old (f x ∷ map f ys) a b c d
onward_split f xs x ys split old a b c d is = subst (λ l. IsOnward old (map f l) a b c d) split is

-- nothing is left
module _ (old : List Coming) (f g s t : ℕ) (is : IsOnward old [] f g s t) where
  pub none_row : None ≡ option_map (λ (x : Coming). x.row) (find is_given old)
  none_row = ap (option_map (λ (x : Coming). x.row)) is.first

  pub none_rest : [] ≡ behind is_given old
  none_rest = is.rest

module _ (r : ℕ) (given : Given) (es : List Cond) (rows : List Values) where
  -- by the number of a row
  module _ (n : ℕ) (ns : List ℕ) (old : List Coming) (f g : ℕ) (is : IsOnward old (fetched_at r given es rows n ∷ rows_of r given es rows ns) f g 0 0)
      (row : Values) (b : Bool) (h : ℕ) (read : slice_get rows n ≡ Some row) (e : b ≡ passes_row r given es row) (cost : h ≡ g + 1) where
    test_is : (fetched_at r given es rows n).given ≡ b
    test_is = ap (λ (v : Values). passes_row r given es v) (get_or_from_slice_get rows n row [] read) ∙ sym e

    pub number_fails : b ≡ false → IsOnward old (rows_of r given es rows ns) f h 0 0
    number_fails fails = onward_by old (rows_of r given es rows ns) (fetched_at r given es rows n) f g 0 0 is (test_is ∙ fails) h 0 cost refl

    pub number_row : b ≡ true → Some n ≡ option_map (λ (x : Coming). x.row) (find is_given old)
    number_row passes = ap (option_map (λ (x : Coming). x.row)) (sym (found_here old (rows_of r given es rows ns) (fetched_at r given es rows n) f g 0 0 is (test_is ∙ passes)))

    pub number_rest : b ≡ true → rows_of r given es rows ns ≡ behind is_given old
    number_rest passes = behind_here old (rows_of r given es rows ns) (fetched_at r given es rows n) f g 0 0 is (test_is ∙ passes)

    pub number_exact : h + owed (rows_of r given es rows ns) ≡ f + owed old
    number_exact = let on = fetched_on old (rows_of r given es rows ns) (fetched_at r given es rows n) f g 0 0 is in omega (arith, on, cost)

  -- by an entry
  module _ (tests : List Cond) (d : Index) (e : IndexEntry) (left : List IndexEntry) (old : List Coming) (f g s t u : ℕ)
      (is : IsOnward old (entry_at r given tests es d rows e ∷ map (entry_at r given tests es d rows) left) f g s t) (look : u ≡ t + 1) where
    abbrev this : Coming
    this = entry_at r given tests es d rows e

    abbrev rest : List Coming
    rest = map (entry_at r given tests es d rows) left

    -- an entry fails the tests
    pub entry_fails : passes_entry r given tests d e ≡ false → IsOnward old rest f g s u
    entry_fails fails =
        let none : g ≡ g + 0 = omega arith in
        onward_by old rest this f g s t is (ap (λ (b : Bool). b && passes_row r given es (get_or rows e.row [])) fails) g u (none ∙ ap (λ (b : Bool). g + cond b 1 0) (sym fails)) look

    module _ (passes : passes_entry r given tests d e ≡ true) (row : Values) (b : Bool) (h : ℕ) (read : slice_get rows e.row ≡ Some row) (same : b ≡ passes_row r given es row) (cost : h ≡ g + 1) where
      given_is : this.given ≡ b
      given_is = ap (λ (x : Bool). x && passes_row r given es (get_or rows e.row [])) passes ∙ ap (λ (v : Values). passes_row r given es v) (get_or_from_slice_get rows e.row row [] read) ∙ sym same

      once : h ≡ g + cond this.fetched 1 0
      once = cost ∙ ap (λ (x : Bool). g + cond x 1 0) (sym passes)

      pub row_fails : b ≡ false → IsOnward old rest f h s u
      row_fails fails = onward_by old rest this f g s t is (given_is ∙ fails) h u once look

      pub entry_row : b ≡ true → Some e.row ≡ option_map (λ (x : Coming). x.row) (find is_given old)
      entry_row yes' = ap (option_map (λ (x : Coming). x.row)) (sym (found_here old rest this f g s t is (given_is ∙ yes')))

      pub entry_rest : b ≡ true → rest ≡ behind is_given old
      entry_rest yes' = behind_here old rest this f g s t is (given_is ∙ yes')

      pub entry_exact : h + owed rest ≡ f + owed old
      entry_exact = let on = fetched_on old rest this f g s t is in let c = once in omega (arith, on, c)

      pub entry_looked : u + looks_allowed rest ≡ s + looks_allowed old
      entry_looked = let on = looked_on old rest this f g s t is in omega (arith, on, look)

-- by an entry that covers the columns
module _ (r : ℕ) (given : Given) (tests es : List Cond) (d : Index) where
  none_owed : (left : List IndexEntry) → owed (map (covered_at r given tests es d) left) ≡ 0
  none_owed [] = refl
  none_owed (e ∷ left) = none_owed left

  pub covered_owed : (left : List IndexEntry) → owed (map (covered_at r given tests es d) left) ≡ 0
  covered_owed left = none_owed left

  module _ (e : IndexEntry) (left : List IndexEntry) (old : List Coming) (s t u : ℕ)
      (is : IsOnward old (covered_at r given tests es d e ∷ map (covered_at r given tests es d) left) 0 0 s t) (look : u ≡ t + 1) where
    abbrev cover : Coming
    cover = covered_at r given tests es d e

    abbrev others : List Coming
    others = map (covered_at r given tests es d) left

    pub cover_fails : (passes_entry r given tests d e && passes_entry r given es d e) ≡ false → IsOnward old others 0 0 s u
    cover_fails fails = onward_by old others cover 0 0 s t is fails 0 u refl look

    pub cover_row : (passes_entry r given tests d e && passes_entry r given es d e) ≡ true → Some e.row ≡ option_map (λ (x : Coming). x.row) (find is_given old)
    cover_row passes = ap (option_map (λ (x : Coming). x.row)) (sym (found_here old others cover 0 0 s t is passes))

    pub cover_rest : (passes_entry r given tests d e && passes_entry r given es d e) ≡ true → others ≡ behind is_given old
    cover_rest passes = behind_here old others cover 0 0 s t is passes

    pub cover_looked : u + looks_allowed others ≡ s + looks_allowed old
    cover_looked = let on = looked_on old others cover 0 0 s t is in omega (arith, on, look)
