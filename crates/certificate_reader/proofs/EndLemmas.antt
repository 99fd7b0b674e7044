-- Where the first line of a text ends.
use Rattle.std.proofs.Common.{◌≡◌, ◌<◌, ◌≤◌, ◌+◌, ◌-◌, ◌==◌, ℕ, zero, suc, Bool, true, false, not, cond, List, [], ◌∷◌, ◌++◌, length, drop, take, get_or, refl, sym, ap, subst, ◌∙◌, arith}
use Rattle.std.proofs.lemmas.Bool.{and_from, eqb-true}
use Rattle.std.proofs.lemmas.List.{length-drop, take_all}
use Rattle.certificate_entries.specs.certificate_text_Texts.{ended, is_line}
use Rattle.certificate_reader.specs.work.Reading.{line_end}

-- a text is its first line, the LF, and what follows
pub record IsCut (text : List ℕ) (n : ℕ) : Type 0 where
  pub is : text ≡ ended (take n text) ++ drop (suc n) text
  pub line : is_line (take n text) ≡ true

pub cut : (text : List ℕ) → line_end text < length text → IsCut text (line_end text)
cut [] lt = absurd (omega (arith, lt))
cut (b ∷ bs) lt = by (b == 10) refl lt (λ less. cut bs less) where
  by : (t : Bool) → (b == 10) ≡ t → cond t 0 (suc (line_end bs)) < suc (length bs) → (line_end bs < length bs → IsCut bs (line_end bs)) → IsCut (b ∷ bs) (cond t 0 (suc (line_end bs)))
  by true e lt more = record { is = ap (λ (x : ℕ). x ∷ bs) (eqb-true b 10 e); line = refl }
  by false e lt more =
      let r = more (omega (arith, lt)) in
      record { is = ap (λ (l : List ℕ). b ∷ l) r.is; line = and_from (not (b == 10)) (is_line (take (line_end bs) bs)) (ap not e) r.line }

pub whole-line : (text : List ℕ) → length text ≤ line_end text → is_line text ≡ true
whole-line [] h = refl
whole-line (b ∷ bs) h = by (b == 10) refl h (λ more. whole-line bs more) where
  by : (t : Bool) → (b == 10) ≡ t → suc (length bs) ≤ cond t 0 (suc (line_end bs)) → (length bs ≤ line_end bs → is_line bs ≡ true) → is_line (b ∷ bs) ≡ true
  by true e h more = absurd (omega (arith, h))
  by false e h more = and_from (not (b == 10)) (is_line bs) (ap not e) (more (omega (arith, h)))

-- one byte more of the line, and its end
pub goes-on-at : (text : List ℕ) (n : ℕ) (d : ℕ) → n < length text → (get_or text n d == 10) ≡ false → line_end (drop n text) ≡ suc (line_end (drop (suc n) text))
goes-on-at [] n d lt e = absurd (omega (arith, lt))
goes-on-at (b ∷ bs) zero d lt e = ap (λ (t : Bool). cond t 0 (suc (line_end bs))) e
goes-on-at (b ∷ bs) (suc n) d lt e = goes-on-at bs n d (omega (arith, lt)) e

pub ends-at : (text : List ℕ) (n : ℕ) (d : ℕ) → n < length text → (get_or text n d == 10) ≡ true → line_end (drop n text) ≡ 0
ends-at [] n d lt e = absurd (omega (arith, lt))
ends-at (b ∷ bs) zero d lt e = ap (λ (t : Bool). cond t 0 (suc (line_end bs))) e
ends-at (b ∷ bs) (suc n) d lt e = ends-at bs n d (omega (arith, lt)) e

-- a text is its first line, the LF, and what follows as a slice has it
pub cut-at : (text : List ℕ) (n : ℕ) → n ≡ line_end text → n < length text →
    (text ≡ ended (take n text) ++ take (length text - (n + 1)) (drop (n + 1) text)) × (is_line (take n text) ≡ true)
cut-at text n e lt =
    let c = subst (IsCut text) (sym e) (cut text (subst (λ m. m < length text) e lt)) in
    let next : suc n ≡ n + 1 = omega arith in
    let all : length (drop (n + 1) text) ≤ length text - (n + 1) = subst (λ m. m ≤ length text - (n + 1)) (sym (length-drop (n + 1) text)) (omega arith) in
    (subst (λ m. text ≡ ended (take n text) ++ drop m text) next c.is ∙ ap (λ (l : List ℕ). ended (take n text) ++ l) (sym (take_all (length text - (n + 1)) (drop (n + 1) text) all)), c.line)
