-- Entries added one by one to those in order, and taken back by their rows.
use Rattle.std.proofs.Common.{◌≡◌, ℕ, zero, suc, ◌+◌, ◌<◌, ◌≤◌, Bool, true, false, cond, List, [], ◌∷◌, ◌++◌, All, Result, Ok, Err, filter, length, take, get_or, refl, sym, ap, ap₂, subst, ◌∙◌, arith}
use Rattle.std.specs.Prelude.{IsFalse, nat_lt}
use Rattle.std.specs.List.{AllByRecursion}
use Rattle.std.specs.Ordering.{is_gt}
use Rattle.std.specs.Result.{OnOk, OnErr}
use Rattle.std.specs.List.Sorted.{ties}
use Rattle.std.proofs.lemmas.Bool.{ltb-true}
use Rattle.std.proofs.lemmas.Bool.Decides.{nat_tests}
use Rattle.std.proofs.lemmas.List.{append_assoc, append-nil, take_more}
use Rattle.std.proofs.lemmas.List.Elements.{All-append, All-weaker, filter-append, recursion_from_All, All-from_recursion}
use Rattle.std.proofs.lemmas.List.Kept.{AllPairs-filter}
use Rattle.pg_value.specs.Sorting.{IsInOrder, in_order}
use Rattle.pg_value.proofs.SortingLemmas.{lesser, weak, after_is, in_order_is, in_order_fixed, in_order_again, All-in_order}
use Rattle.pg_value.proofs.StableSortLemmas.{in_order-up, in_order-alike, one-sorted}
use Rattle.opfamily.specs.declared.classes.IndexKey.{IndexKey}
use Rattle.opfamily.specs.KeyOrder.{IndexEntry, entry_order}
use Rattle.opfamily.proofs.KeyOrderLemmas.{entries_total}
use Rattle.btree_index.specs.work.Adding.{AreAdded}

-- the rows of entries below a number
abbrev pub Below : ℕ → IndexEntry → Type 0
Below rows e = e.row < rows

both_tests : (x : IndexEntry) (a b : Bool) (p q : IndexEntry → Bool) (l : List IndexEntry) → p x ≡ a → q x ≡ b → filter p (filter q l) ≡ filter q (filter p l)
    → filter p (cond b (x ∷ filter q l) (filter q l)) ≡ filter q (cond a (x ∷ filter p l) (filter p l))
both_tests x true true p q l e f h = ap (λ c. cond c (x ∷ filter p (filter q l)) (filter p (filter q l))) e ∙ ap (λ k. x ∷ k) h ∙ sym (ap (λ c. cond c (x ∷ filter q (filter p l)) (filter q (filter p l))) f)
both_tests x true false p q l e f h = h ∙ sym (ap (λ c. cond c (x ∷ filter q (filter p l)) (filter q (filter p l))) f)
both_tests x false true p q l e f h = ap (λ c. cond c (x ∷ filter p (filter q l)) (filter p (filter q l))) e ∙ h
both_tests x false false p q l e f h = h

turned_tests : (p q : IndexEntry → Bool) (l : List IndexEntry) → filter p (filter q l) ≡ filter q (filter p l)
turned_tests p q [] = refl
turned_tests p q (x ∷ l) = both_tests x (p x) (q x) p q l refl refl (turned_tests p q l)

all_below : (rows : ℕ) (es : List IndexEntry) → AllByRecursion (Below rows) es → filter (λ e. nat_lt e.row rows) es ≡ es
all_below rows [] h = refl
all_below rows (e ∷ es) h =
    let below : e.row < rows = h.0 in
    let is : nat_lt e.row rows ≡ true = grind (arith, nat_tests, below) in
    ap (λ b. cond b (e ∷ filter (λ x. nat_lt x.row rows) es) (filter (λ x. nat_lt x.row rows) es)) is ∙ ap (λ l. e ∷ l) (all_below rows es h.1)

none_below : (rows : ℕ) (es : List IndexEntry) → AllByRecursion (λ (e : IndexEntry). rows ≤ e.row) es → filter (λ e. nat_lt e.row rows) es ≡ []
none_below rows [] h = refl
none_below rows (e ∷ es) h =
    let from : rows ≤ e.row = h.0 in
    let is : nat_lt e.row rows ≡ false = grind (arith, nat_tests, from) in
    ap (λ b. cond b (e ∷ filter (λ x. nat_lt x.row rows) es) (filter (λ x. nat_lt x.row rows) es)) is ∙ none_below rows es h.1

first_from : (P : IndexEntry → Type 0) (xs ys : List IndexEntry) → AllByRecursion P (xs ++ ys) → AllByRecursion P xs
first_from P [] ys h = tt
first_from P (x ∷ xs) ys h = (h.0, first_from P xs ys h.1)

module _ (ks : List IndexKey) where
  abbrev sorted : List IndexEntry → List IndexEntry
  sorted es = in_order (entry_order ks) es

  -- some of the sorted list are those of the list, sorted
  among_sorted : (p : IndexEntry → Bool) (es : List IndexEntry) → filter p (sorted es) ≡ sorted (filter p es)
  among_sorted p es =
      let total = entries_total ks in
      let order = entry_order ks in
      let lt : IndexEntry → IndexEntry → Bool = lesser order total in
      let up = in_order-up lt (weak order total) order (after_is order total) in
      let alike = in_order-alike lt (weak order total) order (after_is order total) in
      let kept : IsInOrder order (filter p (sorted es)) = AllPairs-filter (λ x y. IsFalse (is_gt (order x y))) p (sorted es) (in_order_is order total es) in
      sym (in_order_fixed order total (filter p (sorted es)) kept)
      ∙ one-sorted lt (weak order total) (sorted (filter p (sorted es))) (sorted (filter p es)) (up (filter p (sorted es))) (up (filter p es))
      (λ z. alike (filter p (sorted es)) z
      ∙ turned_tests (ties lt z) p (sorted es)
      ∙ ap (filter p) (alike es z)
      ∙ turned_tests p (ties lt z) es
      ∙ sym (alike (filter p es) z))

  pub none_added : (es added : List IndexEntry) → IsInOrder (entry_order ks) es → AreAdded ks es added added es
  none_added es added up = record {
    done = [];
    parts = refl;
    is = sym (ap sorted (append-nil es) ∙ in_order_fixed (entry_order ks) (entries_total ks) es up);
  }

  pub up_still : (es added left now : List IndexEntry) → AreAdded ks es added left now → IsInOrder (entry_order ks) now
  up_still es added left now a = subst (IsInOrder (entry_order ks)) (sym a.is) (in_order_is (entry_order ks) (entries_total ks) (es ++ a.done))

  pub one_added : (es added left rest now new : List IndexEntry) (e : IndexEntry) → AreAdded ks es added left now → left ≡ e ∷ rest → new ≡ sorted (now ++ e ∷ []) → AreAdded ks es added rest new
  one_added es added left rest now new e a first put = record {
    done = a.done ++ e ∷ [];
    parts = a.parts ∙ ap (λ l. a.done ++ l) first ∙ sym (append_assoc a.done (e ∷ []) rest);
    is = put
        ∙ ap (λ l. sorted (l ++ e ∷ [])) a.is
        ∙ in_order_again (entry_order ks) (entries_total ks) (es ++ a.done) (e ∷ [])
        ∙ ap sorted (append_assoc es a.done (e ∷ []));
  }

  pub same_added : (es added left now new : List IndexEntry) → AreAdded ks es added left now → new ≡ now → AreAdded ks es added left new
  same_added es added left now new a is = record { done = a.done; parts = a.parts; is = is ∙ a.is }

  pub all_added : (es added left now : List IndexEntry) → AreAdded ks es added left now → left ≡ [] → now ≡ sorted (es ++ added)
  all_added es added left now a none = a.is ∙ ap (λ l. sorted (es ++ l)) (sym (a.parts ∙ ap (λ l. a.done ++ l) none ∙ append-nil a.done))

  -- entries of rows behind those of the others are taken back, and the others are left
  pub taken_back : (rows : ℕ) (es added left now : List IndexEntry) → IsInOrder (entry_order ks) es → All (Below rows) es → All (λ (e : IndexEntry). rows ≤ e.row) added → AreAdded ks es added left now
      → filter (λ e. nat_lt e.row rows) now ≡ es
  taken_back rows es added left now up below from a =
      let behind = first_from (λ (e : IndexEntry). rows ≤ e.row) a.done left (subst (AllByRecursion (λ (e : IndexEntry). rows ≤ e.row)) a.parts (recursion_from_All (λ (e : IndexEntry). rows ≤ e.row) added from)) in
      ap (filter (λ e. nat_lt e.row rows)) a.is
      ∙ among_sorted (λ e. nat_lt e.row rows) (es ++ a.done)
      ∙ ap sorted (filter-append (λ (e : IndexEntry). nat_lt e.row rows) es a.done ∙ ap₂ (λ (x y : List IndexEntry). x ++ y) (all_below rows es (recursion_from_All (Below rows) es below)) (none_below rows a.done behind) ∙ append-nil es)
      ∙ in_order_fixed (entry_order ks) (entries_total ks) es up

  -- a number above the rows of all
  pub below_after : (es added new : List IndexEntry) {T E : Type 0} (r : Result T E) (rows above : ℕ) → All (Below rows) es → rows ≤ above → All (Below above) added
      → OnOk r (new ≡ sorted (es ++ added)) → OnErr r (new ≡ es) → All (Below above) new
  below_after es added new (Ok x) rows above below le more put kept =
      subst (All (Below above)) (sym put)
      (All-in_order (entry_order ks) (entries_total ks) (Below above) (es ++ added)
      (All-append (Below above) es added (All-weaker (Below rows) (Below above) (λ e lt. omega (arith, lt, le)) es below) more))
  below_after es added new (Err x) rows above below le more put kept = subst (All (Below above)) (sym kept) (All-weaker (Below rows) (Below above) (λ e lt. omega (arith, lt, le)) es below)

-- a number above the rows of the entries that a cut leaves
below_cut : (rows above both : ℕ) → ((row : ℕ) → row < above → row < rows → row < both) → (es : List IndexEntry) → AllByRecursion (Below above) es → AllByRecursion (Below both) (filter (λ e. nat_lt e.row rows) es)
below_cut rows above both least [] h = tt
below_cut rows above both least (e ∷ es) h = by (nat_lt e.row rows) refl (below_cut rows above both least es h.1)
  where
    by : (b : Bool) → nat_lt e.row rows ≡ b → AllByRecursion (Below both) (filter (λ x. nat_lt x.row rows) es)
        → AllByRecursion (Below both) (cond b (e ∷ filter (λ x. nat_lt x.row rows) es) (filter (λ x. nat_lt x.row rows) es))
    by true is more = (least e.row h.0 (ltb-true e.row rows is), more)
    by false is more = more

pub below_among : (rows above both : ℕ) (es new : List IndexEntry) → ((row : ℕ) → row < above → row < rows → row < both) → All (Below above) es → new ≡ filter (λ e. nat_lt e.row rows) es → All (Below both) new
below_among rows above both es new least below is =
    subst (All (Below both)) (sym is) (All-from_recursion (Below both) (filter (λ e. nat_lt e.row rows) es) (below_cut rows above both least es (recursion_from_All (Below above) es below)))

-- a number above the rows of the first entries, and of one more
pub one_below : (rows above : ℕ) (es : List IndexEntry) (n : ℕ) (e : IndexEntry) → n < length es → e ≡ get_or es n e → rows ≤ above → e.row < above → All (Below rows) (take n es) → All (Below above) (take (n + 1) es)
one_below rows above es n e lt is le row below =
    subst (All (Below above)) (sym (take_more es n e lt))
    (All-append (Below above) (take n es) (get_or es n e ∷ []) (All-weaker (Below rows) (Below above) (λ x h. omega (arith, h, le)) (take n es) below)
    (All-from_recursion (Below above) (get_or es n e ∷ []) (subst (Below above) is row, tt)))

take_all : (es : List IndexEntry) (k : ℕ) → length es ≤ k → take k es ≡ es
take_all [] zero more = refl
take_all [] (suc k) more = refl
take_all (x ∷ es) zero more = absurd (omega (arith, more))
take_all (x ∷ es) (suc k) more = ap (λ t. x ∷ t) (take_all es k (omega (arith, more)))

pub all_taken : (P : IndexEntry → Type 0) (es : List IndexEntry) (n : ℕ) → length es ≤ n → All P (take n es) → All P es
all_taken P es n le h = subst (All P) (take_all es n le) h
