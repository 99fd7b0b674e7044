-- How long the word is with which a text begins.
use Rattle.std.proofs.Common.{◌≡◌, ◌<◌, ◌≤◌, ◌+◌, ◌-◌, ℕ, zero, suc, Bool, true, false, not, cond, List, [], ◌∷◌, ◌++◌, length, drop, take, get_or, refl, sym, ap, ap₂, ◌∙◌, arith}
use Rattle.std.proofs.Math.Seq.{drop-append_seam, take-append_seam}
use Rattle.std.proofs.lemmas.List.{length-append, length-drop, take-append-drop, take_all}
use Rattle.std.specs.List.{list_all}
use Rattle.std.proofs.lemmas.Bool.{and_from, and_parts, true≢false}
use Rattle.pg_base.specs.Names.{is_in_name}
use Rattle.certificate_text.specs.work.Words.{stops, word_end}

stopped : (b : Bool) (n : ℕ) → not b ≡ true → cond b (suc n) 0 ≡ 0
stopped true n e = absurd (true≢false (sym e))
stopped false n e = refl

pub stops-at : (y : List ℕ) → stops y ≡ true → word_end y ≡ 0
stops-at [] e = refl
stops-at (b ∷ bs) e = stopped (is_in_name b) (word_end bs) e

-- a word before what stops is the whole word
pub word-end : (x : List ℕ) (y : List ℕ) → list_all is_in_name x ≡ true → stops y ≡ true → word_end (x ++ y) ≡ length x
word-end [] y h e = stops-at y e
word-end (b ∷ bs) y h e =
    let p = and_parts (is_in_name b) (list_all is_in_name bs) h in
    ap (λ (t : Bool). cond t (suc (word_end (bs ++ y))) 0) p.0 ∙ ap suc (word-end bs y p.1 e)

-- one byte more
pub one-more : (text : List ℕ) (n : ℕ) (d : ℕ) → n < length text → is_in_name (get_or text n d) ≡ true → word_end (drop n text) ≡ suc (word_end (drop (suc n) text))
one-more [] n d lt e = absurd (omega (arith, lt))
one-more (b ∷ bs) zero d lt e = ap (λ (t : Bool). cond t (suc (word_end bs)) 0) e
one-more (b ∷ bs) (suc n) d lt e = one-more bs n d (omega (arith, lt)) e

pub none-more : (text : List ℕ) (n : ℕ) (d : ℕ) → n < length text → is_in_name (get_or text n d) ≡ false → word_end (drop n text) ≡ 0
none-more [] n d lt e = absurd (omega (arith, lt))
none-more (b ∷ bs) zero d lt e = ap (λ (t : Bool). cond t (suc (word_end bs)) 0) e
none-more (b ∷ bs) (suc n) d lt e = none-more bs n d (omega (arith, lt)) e

pub at-end : (text : List ℕ) → word_end (drop (length text) text) ≡ 0
at-end [] = refl
at-end (b ∷ bs) = at-end bs

-- a text parted behind its first word
pub parted : (left : List ℕ) (w : List ℕ) (rest : List ℕ) (n : ℕ) → left ≡ w ++ rest → n ≡ length w → (take n left ≡ w) × (take (length left - n) (drop n left) ≡ rest)
parted left w rest n e f =
    let one : take n left ≡ w = ap₂ (λ (m : ℕ) (l : List ℕ). take m l) f e ∙ take-append_seam w rest in
    let two : drop n left ≡ rest = ap₂ (λ (m : ℕ) (l : List ℕ). drop m l) f e ∙ drop-append_seam w rest in
    let long : length left - n ≡ length rest = ap₂ (λ (l : List ℕ) (m : ℕ). length l - m) e f ∙ (ap (λ k. k - length w) (length-append w rest) ∙ omega arith) in
    (one, ap₂ (λ (m : ℕ) (l : List ℕ). take m l) long two ∙ take_all (length rest) rest (omega arith))

-- the bytes up to the end of the word are bytes of names, and no further one is
pub word-of : (text : List ℕ) → list_all is_in_name (take (word_end text) text) ≡ true
word-of [] = refl
word-of (b ∷ bs) = by (is_in_name b) refl (word-of bs)
  where
    by : (t : Bool) → is_in_name b ≡ t → list_all is_in_name (take (word_end bs) bs) ≡ true → list_all is_in_name (take (cond t (suc (word_end bs)) 0) (b ∷ bs)) ≡ true
    by true e h = and_from (is_in_name b) (list_all is_in_name (take (word_end bs) bs)) e h
    by false e h = refl

pub stops-behind : (text : List ℕ) → stops (drop (word_end text) text) ≡ true
stops-behind [] = refl
stops-behind (b ∷ bs) = by (is_in_name b) refl (stops-behind bs)
  where
    by : (t : Bool) → is_in_name b ≡ t → stops (drop (word_end bs) bs) ≡ true → stops (drop (cond t (suc (word_end bs)) 0) (b ∷ bs)) ≡ true
    by true e h = h
    by false e h = ap not e

-- a word before what stops is the whole word, with what is left as a slice has it
pub word-left : (text : List ℕ) (n : ℕ) → n ≡ word_end text → (text ≡ take n text ++ take (length text - n) (drop n text)) × (list_all is_in_name (take n text) ≡ true) × (stops (take (length text - n) (drop n text)) ≡ true)
word-left text n e =
    let all : take (length text - n) (drop n text) ≡ drop n text = take_all (length text - n) (drop n text) (let l = length-drop n text in omega (arith, l)) in (
      sym (take-append-drop n text) ∙ ap (λ (l : List ℕ). take n text ++ l) (sym all),
      ap (λ (m : ℕ). list_all is_in_name (take m text)) e ∙ word-of text,
      ap stops all ∙ (ap (λ (m : ℕ). stops (drop m text)) e ∙ stops-behind text),
    )

-- what is left behind some bytes is no longer
pub behind : (old w new : List ℕ) → old ≡ w ++ new → length new ≤ length old
behind old w new e = let long : length old ≡ length w + length new = ap length e ∙ length-append w new in omega (arith, long)
