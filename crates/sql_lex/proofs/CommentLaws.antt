-- Where a comment ends: a count of the comments that are open finds it.
use Rattle.std.proofs.Common.{◌≡◌, ◌≤◌, ℕ, zero, suc, ◌+◌, ◌-◌, Bool, true, false, ◌||◌, ◌&&◌, nat_eq, Option, Some, None, List, [], ◌∷◌, ◌++◌, length, take, drop, refl, ap, sym, ◌∙◌, append_assoc, append-nil, add-one, drop_of_length-le, arith}
use Rattle.std.proofs.lemmas.List.{drop-drop, take-append-drop, append_cancel_right}
use Rattle.std.specs.Prelude.{if◌then◌else◌}
use Rattle.std.specs.List.{starts_with}
use Rattle.std.proofs.lemmas.Bool.{and_parts, or_parts, or_from, eqb-true}
use Rattle.sql_lex.specs.work.Cuts.{CutsComment, IsNotClosed}
use Rattle.sql_lex.specs.Blanks.{ClosesComment, close, byte, nested}
use Rattle.pg_base.proofs.ListLemmas.{joined-parts as joined}

abbrev pub opens : List ℕ → Bool
opens bs = starts_with nat_eq bs (47 ∷ 42 ∷ [])

abbrev pub closes : List ℕ → Bool
closes bs = starts_with nat_eq bs (42 ∷ 47 ∷ [])

-- the text after the comments that are open, where all of them are closed
abbrev pub closing : ℕ → List ℕ → Option (List ℕ)
closing zero bs = Some bs
closing (suc n) [] = None
closing (suc n) (b ∷ []) = None
closing (suc n) (b ∷ c ∷ bs) = if opens (b ∷ c ∷ bs) then closing (suc (suc n)) bs else (if closes (b ∷ c ∷ bs) then closing n bs else closing (suc n) (c ∷ bs))

pub closing-opens : (n : ℕ) (bs : List ℕ) → opens bs ≡ true → closing (suc n) bs ≡ closing (suc (suc n)) (drop 2 bs)
closing-opens n [] h = refl
closing-opens n (b ∷ []) h = refl
closing-opens n (b ∷ c ∷ bs) h = rw h refl

pub closing-closes : (n : ℕ) (bs : List ℕ) → opens bs ≡ false → closes bs ≡ true → closing (suc n) bs ≡ closing n (drop 2 bs)
closing-closes n [] other h = cc
closing-closes n (b ∷ []) other h = let second = (and_parts (nat_eq 42 b) false h).1 in cc
closing-closes n (b ∷ c ∷ bs) other h = rw (other, h) refl

pub closing-byte : (n : ℕ) (bs : List ℕ) → opens bs ≡ false → closes bs ≡ false → closing (suc n) bs ≡ closing (suc n) (drop 1 bs)
closing-byte n [] other h = refl
closing-byte n (b ∷ []) other h = refl
closing-byte n (b ∷ c ∷ bs) other h = rw (other, h) refl

-- no comment closes without a byte
not_nil : (c : List ℕ) → ClosesComment c → c ≡ [] → ⊥
not_nil _ close e = cc
not_nil _ (byte b bs h inside) e = cc
not_nil _ (nested inner bs first second) e = cc

byte-step : (b : ℕ) (bs : List ℕ) → (opens (b ∷ bs) || closes (b ∷ bs)) ≡ false → (bs ≡ [] → ⊥) → (n : ℕ) (rest : List ℕ) → closing (suc n) ((b ∷ bs) ++ rest) ≡ closing (suc n) (bs ++ rest)
byte-step b [] h some n rest = absurd (some refl)
byte-step b (c ∷ bs) h some n rest = let both = or_parts (opens (b ∷ c ∷ bs)) (closes (b ∷ c ∷ bs)) h in rw (both.0, both.1) refl

-- a whole comment closes one
pub closing-comment : (c : List ℕ) → ClosesComment c → (n : ℕ) (rest : List ℕ) → closing (suc n) (c ++ rest) ≡ closing n rest
closing-comment _ close n rest = refl
closing-comment _ (byte b bs h inside) n rest = byte-step b bs h (not_nil bs inside) n rest ∙ closing-comment bs inside n rest
closing-comment _ (nested inner bs first second) n rest =
    rw append_assoc (closing-comment inner first (suc n) (bs ++ rest) ∙ closing-comment bs second n rest)

-- a text is so many whole comments, one after the other
abbrev pub CloseAll : ℕ → List ℕ → Type 0
CloseAll zero c = c ≡ []
CloseAll (suc n) c = (x y : List ℕ) × (c ≡ x ++ y) × ClosesComment x × CloseAll n y

pub record Closed (n : ℕ) (bs rest : List ℕ) : Type 0 where
  pub bytes : List ℕ
  pub cut : bs ≡ bytes ++ rest
  pub all : CloseAll n bytes

pub opens_is : (b c : ℕ) (bs : List ℕ) → opens (b ∷ c ∷ bs) ≡ true → (b ≡ 47) × (c ≡ 42)
opens_is b c bs h =
    let first = and_parts (nat_eq 47 b) (nat_eq 42 c && true) h in
    let second = and_parts (nat_eq 42 c) true first.1 in
    (sym (eqb-true 47 b first.0), sym (eqb-true 42 c second.0))

closes_is : (b c : ℕ) (bs : List ℕ) → closes (b ∷ c ∷ bs) ≡ true → (b ≡ 42) × (c ≡ 47)
closes_is b c bs h =
    let first = and_parts (nat_eq 42 b) (nat_eq 47 c && true) h in
    let second = and_parts (nat_eq 47 c) true first.1 in
    (sym (eqb-true 42 b first.0), sym (eqb-true 47 c second.0))

two_closed : (n : ℕ) (bs rest z x y x' y' : List ℕ) → bs ≡ z ++ rest → z ≡ x ++ y → ClosesComment x → y ≡ x' ++ y' → ClosesComment x' → CloseAll n y' → Closed (suc n) (47 ∷ 42 ∷ bs) rest
two_closed n bs rest z x y x' y' cut e first e' second others = record {
  bytes = 47 ∷ 42 ∷ z;
  cut = ap (λ (l : List ℕ). 47 ∷ 42 ∷ l) cut;
  all = (47 ∷ 42 ∷ (x ++ x'), y', ap (λ (l : List ℕ). 47 ∷ 42 ∷ l) (joined z x y x' y' e e'), nested x x' first second, others);
}

after_opens : (n : ℕ) (bs rest : List ℕ) → Closed (suc (suc n)) bs rest → Closed (suc n) (47 ∷ 42 ∷ bs) rest
after_opens n bs rest r =
    let outer = r.all.4 in
    two_closed n bs rest r.bytes r.all.0 r.all.1 outer.0 outer.1 r.cut r.all.2 r.all.3 outer.2 outer.3 outer.4

after_closes : (n : ℕ) (bs rest : List ℕ) → Closed n bs rest → Closed (suc n) (42 ∷ 47 ∷ bs) rest
after_closes n bs rest r = record { bytes = 42 ∷ 47 ∷ r.bytes; cut = ap (λ (x : List ℕ). 42 ∷ 47 ∷ x) r.cut; all = (42 ∷ 47 ∷ [], r.bytes, refl, close, r.all) }

one_more : (n b c : ℕ) (bs rest z x y : List ℕ) → opens (b ∷ c ∷ bs) ≡ false → closes (b ∷ c ∷ bs) ≡ false → c ∷ bs ≡ z ++ rest → z ≡ x ++ y → ClosesComment x → CloseAll n y → Closed (suc n) (b ∷ c ∷ bs) rest
one_more n b c bs rest z [] y other h cut e first others = absurd (not_nil [] first refl)
one_more n b c bs rest z (d ∷ x) y other h cut e first others =
    let same : c ≡ d = cc in
    let mark : (opens (b ∷ d ∷ x) || closes (b ∷ d ∷ x)) ≡ false = rw (← same) (or_from (opens (b ∷ c ∷ bs)) (closes (b ∷ c ∷ bs)) other h) in
    record { bytes = b ∷ z; cut = ap (λ (l : List ℕ). b ∷ l) cut; all = (b ∷ d ∷ x, y, ap (λ (l : List ℕ). b ∷ l) e, byte b (d ∷ x) mark first, others) }

after_byte : (n b c : ℕ) (bs rest : List ℕ) → opens (b ∷ c ∷ bs) ≡ false → closes (b ∷ c ∷ bs) ≡ false → Closed (suc n) (c ∷ bs) rest → Closed (suc n) (b ∷ c ∷ bs) rest
after_byte n b c bs rest other h r = one_more n b c bs rest r.bytes r.all.0 r.all.1 other h r.cut r.all.2 r.all.3 r.all.4

-- if the count ends, the comments stand there
pub closing-sound : (n : ℕ) (bs rest : List ℕ) → closing n bs ≡ Some rest → Closed n bs rest
closing-sound zero bs rest h = record { bytes = []; cut = cc; all = refl }
closing-sound (suc n) [] rest h = cc
closing-sound (suc n) (b ∷ []) rest h = cc
closing-sound (suc n) (b ∷ c ∷ bs) rest h =
    sound-step (opens (b ∷ c ∷ bs)) (closes (b ∷ c ∷ bs)) refl refl h (closing-sound (suc (suc n)) bs rest) (closing-sound n bs rest) (closing-sound (suc n) (c ∷ bs) rest)
  where
    sound-step : (o k : Bool) → opens (b ∷ c ∷ bs) ≡ o → closes (b ∷ c ∷ bs) ≡ k → (if o then closing (suc (suc n)) bs else (if k then closing n bs else closing (suc n) (c ∷ bs))) ≡ Some rest
        → (closing (suc (suc n)) bs ≡ Some rest → Closed (suc (suc n)) bs rest) → (closing n bs ≡ Some rest → Closed n bs rest) → (closing (suc n) (c ∷ bs) ≡ Some rest → Closed (suc n) (c ∷ bs) rest)
        → Closed (suc n) (b ∷ c ∷ bs) rest
    sound-step true k is-o is-k e deep out on = let marks = opens_is b c bs is-o in rw (marks.0, marks.1) (after_opens n bs rest (deep e))
    sound-step false true is-o is-k e deep out on = let marks = closes_is b c bs is-k in rw (marks.0, marks.1) (after_closes n bs rest (out e))
    sound-step false false is-o is-k e deep out on = after_byte n b c bs rest is-o is-k (on e)

pub passes_opening : (m : ℕ) (text : List ℕ) (at : ℕ) → 1 ≤ m → opens (drop at text) ≡ true → closing (m + 1) (drop (at + 2) text) ≡ closing m (drop at text)
passes_opening zero text at some h = absurd (omega arith)
passes_opening (suc n) text at some h =
    let past = ap (closing (suc (suc n))) (drop-drop 2 at text) in
    rw add-one (sym past ∙ sym (closing-opens n (drop at text) h))

pub passes_closing : (m : ℕ) (text : List ℕ) (at : ℕ) → 1 ≤ m → opens (drop at text) ≡ false → closes (drop at text) ≡ true → closing (m - 1) (drop (at + 2) text) ≡ closing m (drop at text)
passes_closing zero text at some other h = absurd (omega arith)
passes_closing (suc n) text at some other h =
    let less : suc n - 1 ≡ n = omega arith in
    rw (less, ← drop-drop 2 at text) (sym (closing-closes n (drop at text) other h))

pub passes_byte : (m : ℕ) (text : List ℕ) (at : ℕ) → 1 ≤ m → opens (drop at text) ≡ false → closes (drop at text) ≡ false → closing m (drop (at + 1) text) ≡ closing m (drop at text)
passes_byte zero text at some other h = absurd (omega arith)
passes_byte (suc n) text at some other h =
    let past = ap (closing (suc n)) (drop-drop 1 at text) in
    sym past ∙ sym (closing-byte n (drop at text) other h)

one_closed : (text : List ℕ) (at : ℕ) (bytes x y : List ℕ) → text ≡ bytes ++ drop at text → bytes ≡ x ++ y → ClosesComment x → y ≡ [] → ClosesComment (take at text)
one_closed text at bytes x y cut e first none =
    let front : take at text ≡ bytes = append_cancel_right (take at text) bytes (drop at text) (take-append-drop at text ∙ cut) in
    let whole : bytes ≡ x = e ∙ (ap (λ (l : List ℕ). x ++ l) none ∙ append-nil x) in
    rw (front, whole) first

-- where the count ends at a place, the comment does
pub closed_at : (text : List ℕ) (at : ℕ) → at ≤ length text → closing 0 (drop at text) ≡ closing 1 text → CutsComment text at
closed_at text at within same =
    let r = closing-sound 1 text (drop at text) (sym same) in
    record { within = within; closes = one_closed text at r.bytes r.all.0 r.all.1 r.cut r.all.2 r.all.3 r.all.4 }

nothing_left : (m : ℕ) (rest : List ℕ) → 1 ≤ m → closing m [] ≡ Some rest → ⊥
nothing_left zero rest some h = omega arith
nothing_left (suc n) rest some h = cc

-- where it does not end, none does
pub not_closed : (text : List ℕ) (at m : ℕ) → length text ≤ at → 1 ≤ m → closing m (drop at text) ≡ closing 1 text → IsNotClosed text
not_closed text at m past some same bytes rest e whole =
    let end : drop at text ≡ [] = drop_of_length-le text past in
    nothing_left m rest some (ap (closing m) (sym end) ∙ (same ∙ (ap (closing 1) e ∙ closing-comment bytes whole 0 rest)))
