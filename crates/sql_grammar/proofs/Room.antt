-- The stack has room for what a step brings.
use Rattle.std.proofs.Common.{◌≡◌, ℕ, ◌+◌, ◌*◌, ◌≤◌, ◌<◌, Bool, true, false, ◌&&◌, not, nat_le, List, [], ◌∷◌, ◌++◌, length, Some, None, refl, sym, ap, ◌∙◌, subst, arith, length-append, cond}
use Rattle.std.proofs.lemmas.Bool.{leb-true, le-leb, lt-leb, and_parts}
use Rattle.pg_base.specs.declared.limits.TheConstants.{MOST_LEVELS}
use Rattle.sql_grammar.specs.declared.class.Class.{Class}
use Rattle.sql_grammar.specs.declared.class.Class.TheVariants.{Key, Mark, Name, Number, Quoted, Operator, Semicolon, End}
use Rattle.sql_grammar.specs.declared.table.Item.{Item}
use Rattle.sql_grammar.specs.declared.table.Item.TheVariants.{Whole, Closes, NotEnds}
use Rattle.sql_grammar.specs.work.Table.{Expansion, GrammarRow, leads, row_for, all_rows_of, takes_of, takes_end, is_ending, is_optional, room_of}
use Rattle.sql_grammar.specs.work.Machine.{depth_of, is_empty, is_closed, opens, pushed, by_row, step_of, Fits}
use Rattle.sql_grammar.specs.work.Steps.{Taken}
use Rattle.sql_grammar.proofs.RoomTests.{room_test, row_test, rows_test}
use Rattle.sql_grammar.proofs.Sound.{flat-depth}

-- a class that a row's token takes ends a statement where that token does
same-end : (c t : Class) → leads c t ≡ true → is_ending c ≡ is_ending t
same-end (Name (Some w)) (Name (Some v)) e = refl
same-end (Name None) (Name v) e = refl
same-end (Key w) (Key v) e = refl
same-end (Mark s) (Mark v) e = refl
same-end Number Number e = refl
same-end Quoted Quoted e = refl
same-end Operator Operator e = refl
same-end Semicolon Semicolon e = refl
same-end End End e = refl
same-end _ _ e = absurd (cc)

-- the row of a token that one of the rows takes keeps within the room
led-room : (i : Item) (c t : Class) (is : List Item) → leads c t ≡ true → row_test i c (Some is) ≡ true → row_test i t (Some is) ≡ true
led-room i c t is e test =
    subst (λ b. ((nat_le (depth_of is) 1 && room_test (room_of i) is) && cond (takes_end i) (cond b (is_empty is) (is_closed false true is)) (not b && is_closed true false is)) ≡ true) (same-end c t e) test

here-room : (i : Item) (t : Class) (row : GrammarRow) (below : Expansion) (led offered : Bool) → leads row.0 t ≡ led → row_test i row.0 (Some row.2) ≡ true →
    row_test i t below ≡ true → row_test i t (cond led (cond offered (Some row.2) None) below) ≡ true
here-room i t row below true true e test rest = led-room i row.0 t row.2 e test
here-room i t row below true false e test rest = refl
here-room i t row below false offered e test rest = rest

found-room : (i : Item) (t : Class) (rows : List GrammarRow) → rows_test i rows ≡ true → row_test i t (row_for rows t) ≡ true
found-room i t [] test = refl
found-room i t (row ∷ rows) test =
    let both = and_parts _ _ test in
    here-room i t row (row_for rows t) (leads row.0 t) row.1 refl both.0 (found-room i t rows both.1)

-- computed for each item
all-rows : (i : Item) → rows_test i (all_rows_of i) ≡ true
all-rows Whole = refl
all-rows _ = refl

pub row-room : (i : Item) (t : Class) → row_test i t (takes_of i t) ≡ true
row-room i t = found-room i t (all_rows_of i) (all-rows i)

room-some : (i : Item) → 1 ≤ room_of i
room-some Whole = omega arith
room-some _ = omega arith

depth-append : (a b : List Item) → depth_of (a ++ b) ≡ depth_of a + depth_of b
depth-append [] b = omega arith
depth-append (i ∷ a) b = omega (arith, depth-append a b)

room-append : (room base : ℕ) (is s : List Item) → room_test room is ≡ true → room + length s ≤ base + 3 * depth_of s → Fits base s → Fits base (is ++ s)
room-append room base [] s test at fits = fits
room-append room base (i ∷ is) s test at fits =
    let both = and_parts _ _ test in
    let here : room_of i + length is ≤ room + 3 * depth_of is = leb-true _ _ both.0 in
    (omega (arith, here, at, length-append is s, depth-append is s), room-append room base is s both.1 at fits)

pub depth-length : (s : List Item) → depth_of s ≤ length s
depth-length [] = omega arith
depth-length (Closes ∷ s) = omega (arith, depth-length s)
depth-length (NotEnds ∷ s) = omega (arith, depth-length s)
depth-length (_ ∷ s) = omega (arith, depth-length s)

pub room-length : (base : ℕ) (s : List Item) → Fits base s → length s ≤ base + 3 * depth_of s
room-length base [] fits = omega arith
room-length base (i ∷ s) fits = omega (arith, fits.0, room-some i)

pub record Pushes (is s : List Item) : Type 0 where
  pub fits : Fits 16 (is ++ s)
  pub depth : depth_of (is ++ s) ≤ depth_of s + 1
  pub length : length (is ++ s) ≤ 120

pub pushes : (i : Item) (t : Class) (is s : List Item) → takes_of i t ≡ Some is → Fits 16 (i ∷ s) → depth_of (i ∷ s) ≤ MOST_LEVELS → Pushes is s
pushes i t is s row fits shallow =
    let test : row_test i t (Some is) ≡ true = ap (row_test i t) (sym row) ∙ row-room i t in
    let both = and_parts _ _ (and_parts _ _ test).0 in
    let one : depth_of is ≤ 1 = leb-true _ _ both.0 in
    let all : Fits 16 (is ++ s) = room-append (room_of i) 16 is s both.1 fits.0 fits.1 in
    record {
      fits = all;
      depth = omega (arith, one, depth-append is s);
      length = omega (arith, one, depth-append is s, room-length 16 (is ++ s) all);
    }

-- there are cells for a row's items
pub room-for : (i : Item) (t : Class) (is s mid : List Item) → mid ≡ i ∷ s → takes_of i t ≡ Some is → Fits 16 mid → depth_of mid ≤ MOST_LEVELS → length is + length s ≤ 120
room-for i t is s mid top row fits shallow =
    let p = pushes i t is s row (subst (Fits 16) top fits) (subst (λ m. depth_of m ≤ MOST_LEVELS) top shallow) in
    omega (arith, p.length, length-append is s)

pushed-yes : (limit : ℕ) (is s : List Item) → depth_of (is ++ s) ≤ limit → pushed limit is s ≡ Some (is ++ s)
pushed-yes limit is s low = rw (le-leb _ _ low) (elim (opens is) as (λ b. cond b (Some (is ++ s)) (Some (is ++ s)) ≡ Some (is ++ s)) [ true ↦ refl | false ↦ refl ])

flat-no : (limit : ℕ) (is s : List Item) (b : Bool) → (b ≡ false → depth_of (is ++ s) ≡ depth_of s) → limit < depth_of (is ++ s) → depth_of s ≤ limit →
    cond b None (Some (is ++ s)) ≡ None
flat-no limit is s true flat high low = refl
flat-no limit is s false flat high low = let same = flat refl in absurd (omega (arith, same))

pushed-no : (limit : ℕ) (is s : List Item) → limit < depth_of (is ++ s) → depth_of s ≤ limit → pushed limit is s ≡ None
pushed-no limit is s high low = rw (lt-leb _ _ high) (flat-no limit is s (opens is) (flat-depth is s) high low)

module _ (t : Class) (old mid : List Item) (i : Item) (s is new : List Item) (same : (limit : ℕ) → step_of limit t old ≡ step_of limit t mid)
    (top : mid ≡ i ∷ s) (row : takes_of i t ≡ Some is) (is_new : new ≡ is ++ s) where
  after-row : (limit : ℕ) → step_of limit t old ≡ pushed limit is s
  after-row limit = same limit ∙ (ap (step_of limit t) top ∙ ap (λ r. by_row limit r (is_optional i) s (step_of limit t s)) row)

  pub took : Fits 16 mid → depth_of mid ≤ MOST_LEVELS → depth_of new ≤ MOST_LEVELS → Taken t old new
  took fits shallow low =
      let low' : depth_of (is ++ s) ≤ MOST_LEVELS = subst (λ m. depth_of m ≤ MOST_LEVELS) is_new low in
      let p = pushes i t is s row (subst (Fits 16) top fits) (subst (λ m. depth_of m ≤ MOST_LEVELS) top shallow) in
      record { step = after-row MOST_LEVELS ∙ (pushed-yes MOST_LEVELS is s low' ∙ ap Some (sym is_new)); fits = subst (Fits 16) (sym is_new) p.fits; shallow = low }

  pub too-deep : Fits 16 mid → depth_of mid ≤ MOST_LEVELS → MOST_LEVELS < depth_of new → (step_of MOST_LEVELS t old ≡ None) × (step_of (MOST_LEVELS + 1) t old ≡ Some new)
  too-deep fits shallow high =
      let high' : MOST_LEVELS < depth_of (is ++ s) = subst (λ m. MOST_LEVELS < depth_of m) is_new high in
      let shallow' : depth_of (i ∷ s) ≤ MOST_LEVELS = subst (λ m. depth_of m ≤ MOST_LEVELS) top shallow in
      let p = pushes i t is s row (subst (Fits 16) top fits) shallow' in
      let low : depth_of (is ++ s) ≤ MOST_LEVELS + 1 = omega (arith, p.depth) in
      (after-row MOST_LEVELS ∙ pushed-no MOST_LEVELS is s high' (omega arith), after-row (MOST_LEVELS + 1) ∙ (pushed-yes (MOST_LEVELS + 1) is s low ∙ ap Some (sym is_new)))
