-- Entries for paths in the order of printing are in that order.
use Prim.Native.Nat.{suc, zero}
use Rattle.std.proofs.Common.{◌≡◌, ◌<◌, ℕ, List, [], ◌∷◌, ◌++◌, get_or, length, ◌∙◌, ap, ap₂, arith}
use Rattle.std.specs.Prelude.{Option, Some}
use Rattle.std.specs.Ordering.{is_gt}
use Rattle.pg_value.specs.Sorting.{IsInOrder}
use Rattle.plan_tree.specs.work.Paths.{Path}
use Rattle.plan_tree.specs.Plans.{Plan}
use Rattle.plan_check.specs.Certificates.{Entry, by_seq}
use Rattle.certificate_laws.specs.work.Kept.{AreEntriesOf, IsEntryOf}
use Rattle.certificate_laws.specs.Printing.{printing_order}
use Rattle.certificate_laws.specs.work.Printing.{path_order, said}

-- an entry without what it is made of
abbrev bare : Entry → Entry
bare e = record { set = e.set; param = e.param; node = by_seq; startup = e.startup; cost = e.cost; rows = e.rows; keys = e.keys }

-- an entry says what its path does
says : (n : ℕ) (before : List (Option Plan)) (e : Entry) (x : Path) → IsEntryOf n before e x → bare e ≡ said x
says n before e x h i = record { set = h.set i; param = h.param i; node = by_seq; startup = h.startup i; cost = h.cost i; rows = h.rows i; keys = h.keys i }

-- one entry stands to another as its path does to the other's
alike : (n m : ℕ) (before later : List (Option Plan)) (e f : Entry) (x y : Path) → IsEntryOf n before e x → IsEntryOf m later f y → printing_order e f ≡ path_order x y
alike n m before later e f x y h g = ap₂ printing_order (says n before e x h) (says m later f y g)

-- the entry at a place and the path there
module _ (w : ℕ) (d : Entry) (z : Path) where
  pub at-both : (before : List (Option Plan)) (es : List Entry) (xs : List Path) → AreEntriesOf w before es xs → (k : ℕ) → k < length es → (k < length xs) × (bare (get_or es k d) ≡ said (get_or xs k z))
  at-both before [] xs h k lt = absurd (omega (arith, lt))
  at-both before (e ∷ es) [] h k lt = absurd h
  at-both before (e ∷ es) (x ∷ xs) h zero lt = (omega arith, says w before e x h.0)
  at-both before (e ∷ es) (x ∷ xs) h (suc k) lt =
      let r = at-both (before ++ Some x.tree ∷ []) es xs h.1 k (omega (arith, lt)) in
      (let low = r.0 in omega (arith, low), r.1)

some-path : (xs : List Path) (k : ℕ) → k < length xs → Path
some-path [] k lt = absurd (omega (arith, lt))
some-path (x ∷ xs) k lt = x

first-path : (w : ℕ) (before : List (Option Plan)) (es : List Entry) (xs : List Path) → AreEntriesOf w before es xs → 0 < length es → Path
first-path w before [] xs h lt = absurd (omega (arith, lt))
first-path w before (e ∷ es) [] h lt = absurd h
first-path w before (e ∷ es) (x ∷ xs) h lt = x

pub ordered-entries : (w : ℕ) (es : List Entry) (xs : List Path) → AreEntriesOf w [] es xs → IsInOrder path_order xs → IsInOrder printing_order es
ordered-entries w es xs are up i j d lt within =
    let z = first-path w [] es xs are (omega (arith, within)) in
    let a = at-both w d z [] es xs are i (omega (arith, lt, within)) in
    let b = at-both w d z [] es xs are j within in
    ap is_gt (ap₂ printing_order a.1 b.1) ∙ up i j z lt b.0
