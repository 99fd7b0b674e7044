-- Where the words of a new table end.
use Rattle.std.proofs.Common.{◌≡◌, ◌<◌, ◌+◌, ℕ, List, [], ◌∷◌, length, get_or, refl, zero, suc, arith, ap, sym, ◌∙◌}
use Rattle.statements.specs.Faults.{word_ends}

pub ends-length : (at : List ℕ) (words : List (List ℕ)) → length at ≡ length words → length (word_ends at words) ≡ length words
ends-length [] words same = same
ends-length (a ∷ at) [] same = absurd (omega (arith, same))
ends-length (a ∷ at) (w ∷ words) same = omega (arith, ends-length at words (omega (arith, same)))

pub ends-at : (at : List ℕ) (words : List (List ℕ)) (n : ℕ) → n < length at → n < length words → get_or (word_ends at words) n 0 ≡ get_or at n 0 + length (get_or words n [])
ends-at [] words n lt le = absurd (omega (arith, lt))
ends-at (a ∷ at) [] n lt le = absurd (omega (arith, le))
ends-at (a ∷ at) (w ∷ words) zero lt le = refl
ends-at (a ∷ at) (w ∷ words) (suc n) lt le = ends-at at words n (omega (arith, lt)) (omega (arith, le))

pub ends-as-many : (at : List ℕ) (words : List (List ℕ)) (ends : List ℕ) → ends ≡ word_ends at words → length at ≡ length words → length ends ≡ length at
ends-as-many at words ends is same = ap length is ∙ (ends-length at words same ∙ sym same)

-- of the words as they are passed on
pub ends-told : (at name : List ℕ) (names lent : List (List ℕ)) (ends shown : List ℕ) → shown ≡ ends → ends ≡ word_ends at (name ∷ lent) → lent ≡ names → shown ≡ word_ends at (name ∷ names)
ends-told at name names lent ends shown seen is same = seen ∙ (is ∙ ap (λ (l : List (List ℕ)). word_ends at (name ∷ l)) same)
