-- A text and its lines.
use Rattle.std.proofs.Common.{◌≡◌, ◌≢◌, ℕ, ◌+◌, ◌<◌, true, false, List, [], ◌∷◌, ◌++◌, length, take, drop, get_or, refl, zero, suc, sym, ap, ◌∙◌, arith, nat_eq, append_assoc, add-one}
use Rattle.std.proofs.lemmas.Bool.{eqb-true, false_from_ne_true}
use Rattle.std.proofs.lemmas.List.Elements.{All-append, All-cons, All-nil}
use Rattle.ddl_reader.specs.Block.{lines_of, is_mark, size_of, HaveNoMark, IsBlockEnd}

differs : (b : ℕ) → b ≢ 10 → nat_eq b 10 ≡ false
differs b ne = false_from_ne_true _ (λ e. ne (eqb-true b 10 e))

cut-by : (text : List ℕ) (n : ℕ) → n < length text → get_or text n 0 ≡ 10 → ((k : ℕ) → k < n → get_or text k 0 ≢ 10) → lines_of text ≡ take (suc n) text ∷ lines_of (drop (suc n) text)
cut-by [] n lt is other = absurd (omega (arith, lt))
cut-by (b ∷ bs) zero lt is other = rw is refl
cut-by (b ∷ bs) (suc n) lt is other =
    let before : (k : ℕ) → k < n → get_or bs k 0 ≢ 10 = λ k le. other (suc k) (omega (arith, le)) in
    rw (differs b (other 0 (omega arith)), cut-by bs n (omega (arith, lt)) is before) refl

-- the first LF ends the first line
pub cut : (text : List ℕ) (n : ℕ) → n < length text → get_or text n 0 ≡ 10 → ((k : ℕ) → k < n → get_or text k 0 ≢ 10) → lines_of text ≡ take (n + 1) text ∷ lines_of (drop (n + 1) text)
cut text n lt is other = rw (add-one n) (cut-by text n lt is other)

-- without LF all is one line
pub whole : (text : List ℕ) → 0 < length text → ((k : ℕ) → k < length text → get_or text k 0 ≢ 10) → lines_of text ≡ text ∷ []
whole [] some other = absurd (omega (arith, some))
whole (b ∷ []) some other = rw (differs b (other 0 (omega arith))) refl
whole (b ∷ c ∷ bs) some other =
    let after : (k : ℕ) → k < length (c ∷ bs) → get_or (c ∷ bs) k 0 ≢ 10 = λ k le. other (suc k) (omega (arith, le)) in
    rw (differs b (other 0 (omega arith)), whole (c ∷ bs) (omega arith) after) refl

sum-more : (before : List (List ℕ)) (line : List ℕ) → size_of (before ++ line ∷ []) ≡ size_of before + length line
sum-more [] line = omega arith
sum-more (x ∷ before) line = omega (arith, sum-more before line)

-- some lines passed over, up to `at`
pub record Passed (text : List ℕ) (start at : ℕ) : Type 0 where
  pub before : List (List ℕ)
  pub lines : lines_of (drop start text) ≡ before ++ lines_of (drop at text)
  pub none : HaveNoMark before
  pub place : at ≡ start + size_of before

pub none-passed : (text : List ℕ) (start : ℕ) → Passed text start start
none-passed text start = record { before = []; lines = refl; none = All-nil (λ line. is_mark line ≡ false); place = omega arith }

pub one-passed : (text : List ℕ) (start at n : ℕ) (line : List ℕ) → Passed text start at → lines_of (drop at text) ≡ line ∷ lines_of (drop (at + n) text) →
    length line ≡ n → is_mark line ≡ false → Passed text start (at + n)
one-passed text start at n line so first-line len plain = record {
  before = so.before ++ line ∷ [];
  lines = so.lines ∙ (ap (λ l. so.before ++ l) first-line ∙ sym (append_assoc so.before (line ∷ []) (lines_of (drop (at + n) text))));
  none = All-append (λ l. is_mark l ≡ false) so.before (line ∷ []) so.none (All-cons (λ l. is_mark l ≡ false) line [] plain (All-nil (λ l. is_mark l ≡ false)));
  place = omega (arith, so.place, len, sum-more so.before line);
}

pub found : (text : List ℕ) (start at n : ℕ) (line : List ℕ) → Passed text start at → lines_of (drop at text) ≡ line ∷ lines_of (drop (at + n) text) →
    length line ≡ n → is_mark line ≡ true → IsBlockEnd text start at (at + n)
found text start at n line so first-line len marked = record {
  before = so.before;
  mark = line;
  after = lines_of (drop (at + n) text);
  lines = so.lines ∙ ap (λ l. so.before ++ l) first-line;
  first = so.none;
  is = marked;
  end_is = so.place;
  next_is = omega (arith, len);
}
