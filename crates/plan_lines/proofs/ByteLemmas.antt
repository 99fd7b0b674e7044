-- Where a byte stands first.
use Prim.Native.Nat.{suc, zero}
use Rattle.std.proofs.Common.{◌≡◌, ◌≢◌, ◌≤◌, ◌<◌, ◌+◌, ◌-◌, ◌==◌, ap₂, ℕ, Bool, true, false, not, List, ◌∷◌, [], ◌++◌, length, get_or, take, drop, refl, sym, ◌∙◌, ap, arith}
use Rattle.std.proofs.Math.Seq.{take-append_seam, drop-append_seam}
use Rattle.std.proofs.lemmas.List.{drop_more, length-append, take_all}
use Rattle.std.proofs.lemmas.Bool.{and_parts, true≢false}
use Rattle.std.proofs.lemmas.Bool.Decides.{nat_tests}
use Rattle.plan_lines.specs.work.Parts.{lacks}

differs : (x b : ℕ) → not (x == b) ≡ true → x ≢ b
differs x b h e = grind (arith, nat_tests, h, e)

-- a byte that is found among others that it is not, and before it, is the one behind them
pub found-at : (b : ℕ) (t rest : List ℕ) (n : ℕ) → lacks b t ≡ true → n ≤ length t → get_or (t ++ b ∷ rest) n 0 ≡ b → n ≡ length t
found-at b [] rest n h le e = omega (arith, le)
found-at b (x ∷ t) rest zero h le e = absurd (differs x b (and_parts (not (x == b)) (lacks b t) h).0 e)
found-at b (x ∷ t) rest (suc n) h le e = ap suc (found-at b t rest n (and_parts (not (x == b)) (lacks b t) h).1 (omega (arith, le)) e)

pub not-at : (b : ℕ) (t rest : List ℕ) (n : ℕ) → n ≤ length t → get_or (t ++ b ∷ rest) n 0 ≢ b → suc n ≤ length t
not-at b [] rest zero le other = absurd (other refl)
not-at b [] rest (suc n) le other = absurd (omega (arith, le))
not-at b (x ∷ t) rest zero le other = omega arith
not-at b (x ∷ t) rest (suc n) le other = let more = not-at b t rest n (omega (arith, le)) other in omega (arith, more)

-- what stands before the byte and behind it
pub cut-at : (b end : ℕ) (t rest text : List ℕ) → text ≡ t ++ b ∷ rest → end ≡ length t → end < length text →
    (take end text ≡ t) × (take (length text - (end + 1)) (drop (end + 1) text) ≡ rest)
cut-at b end t rest text is e lt =
    let front : take end text ≡ t = ap₂ (λ (n : ℕ) (l : List ℕ). take n l) e is ∙ take-append_seam t (b ∷ rest) in
    let seam : drop end text ≡ b ∷ rest = ap₂ (λ (n : ℕ) (l : List ℕ). drop n l) e is ∙ drop-append_seam t (b ∷ rest) in
    let more : get_or text end 0 ∷ drop (end + 1) text ≡ b ∷ rest = sym (drop_more text end 0 lt) ∙ seam in
    let back : drop (end + 1) text ≡ rest = ap (λ (l : List ℕ). drop 1 l) more in
    let long : length text ≡ length t + length (b ∷ rest) = ap (λ (l : List ℕ). length l) is ∙ length-append t (b ∷ rest) in
    (front, ap (λ (l : List ℕ). take (length text - (end + 1)) l) back ∙ take_all (length text - (end + 1)) rest (few (length text) (length t) (length rest) end long e))
  where
    few : (n m k end : ℕ) → n ≡ m + suc k → end ≡ m → k ≤ n - (end + 1)
    few n m k end h e = omega (arith, h, e)
