-- The tokens of a statement.
use Rattle.std.proofs.Common.{◌≡◌, ℕ, ◌-◌, ◌<◌, ◌≤◌, Bool, true, false, List, [], ◌∷◌, ◌++◌, length, slice_index_or, All, refl, ap, subst, sym, MatchBool, arith}
use Rattle.std.proofs.lemmas.List.Elements.{All-cons, All-nil}
use Rattle.sql_lex.specs.declared.tokens.Token.{Token}
use Rattle.sql_lex.specs.Words.{AreWords, IsNext, is_last}

module _ (text : List ℕ) (P : Token → Type 0) (one : (from : ℕ) (t : Token) → IsNext text from t → P t) where
  each-by : (t : Token) (ts : List Token) (b : Bool) → ((from : ℕ) → AreWords text from ts → All P ts) → MatchBool b (ts ≡ []) (AreWords text t.end ts) → All P ts
  each-by t ts true more w = subst (All P) (sym w) (All-nil P)
  each-by t ts false more w = more t.end w

  -- what holds of each next token holds of all
  each-word : (from : ℕ) (tokens : List Token) → AreWords text from tokens → All P tokens
  each-word from [] w = absurd w
  each-word from (t ∷ ts) w = All-cons P t ts (one from t w.0) (each-by t ts (is_last text t) (λ f. each-word f ts) w.1)

-- each begins and ends within the text
pub starts-within : (text : List ℕ) (from : ℕ) (tokens : List Token) → AreWords text from tokens → All (λ u. u.start ≤ length text) tokens
starts-within text = each-word text (λ u. u.start ≤ length text) (λ from t n. n.gap.within)

pub ends-within : (text : List ℕ) (from : ℕ) (tokens : List Token) → AreWords text from tokens → All (λ u. u.end ≤ length text) tokens
ends-within text = each-word text (λ u. u.end ≤ length text) (λ from t n. n.within)

-- there is one
pub some-token : (text : List ℕ) (from : ℕ) (tokens : List Token) → AreWords text from tokens → 0 < length tokens
some-token text from [] w = absurd w
some-token text from (t ∷ ts) w = omega arith

-- the last of some tokens
last-by : (t d : Token) (ts : List Token) → (before : List Token) × (t ∷ ts ≡ before ++ slice_index_or (t ∷ ts) (length ts) d ∷ [])
last-by t d [] = ([], refl)
last-by t d (u ∷ ts) = let (before, is) = last-by u d ts in (t ∷ before, ap (λ l. t ∷ l) is)

pub last-token : (text : List ℕ) (from : ℕ) (tokens : List Token) (d : Token) → AreWords text from tokens → (before : List Token) × (tokens ≡ before ++ slice_index_or tokens (length tokens - 1) d ∷ [])
last-token text from [] d w = absurd w
last-token text from (t ∷ ts) d w = let count : length (t ∷ ts) - 1 ≡ length ts = omega arith in rw count (last-by t d ts)
