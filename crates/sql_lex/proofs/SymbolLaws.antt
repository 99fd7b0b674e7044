-- The longest symbol at the front of a text.
use Rattle.std.proofs.Common.{◌≡◌, ◌≤◌, ◌<◌, ℕ, zero, suc, max, Bool, true, false, nat_eq, List, [], ◌∷◌, ◌++◌, length, take, drop, refl, ap, sym, ◌∙◌, arith, ◌⊎◌, inl, inr}
use Rattle.std.specs.Prelude.{if◌then◌else◌, Contains}
use Rattle.std.specs.List.{starts_with}
use Rattle.std.proofs.lemmas.Slice.Eq.{starts_is}
use Rattle.std.proofs.lemmas.Bool.{cases_lt}
use Rattle.std.proofs.lemmas.Bool.Decides.{Decides-eqb}
use Rattle.std.proofs.lemmas.List.{take-append-drop, append_cancel_right, length-append}
use Rattle.sql_lex.specs.Forms.{symbols}
use Rattle.sql_lex.specs.work.Cuts.{IsLongestAt, HasNoSymbol, longest_of}
use Rattle.sql_lex.proofs.KindLaws.{symbol_kind}

pub starts-true : (text s : List ℕ) → starts_with nat_eq text s ≡ true → text ≡ s ++ drop (length s) text
starts-true text s h = (starts_is Decides-eqb text s (starts_with nat_eq text s) refl).0 h

pub starts-from : (text s rest : List ℕ) → text ≡ s ++ rest → starts_with nat_eq text s ≡ true
starts-from text s rest e = (starts_is Decides-eqb text s (starts_with nat_eq text s) refl).1 rest e

-- some text of the list stands at the front, and none that does is longer than n
pub record IsGreatest (ss : List (List ℕ)) (text : List ℕ) (n : ℕ) : Type 0 where
  pub found : 0 < n → (s : List ℕ) × Contains ss s × (starts_with nat_eq text s ≡ true) × (length s ≡ n)
  pub above : (s : List ℕ) → Contains ss s → starts_with nat_eq text s ≡ true → length s ≤ n

there : (s x : List ℕ) (ss : List (List ℕ)) → Contains ss x → Contains (s ∷ ss) x
there s x ss (k, lt, at) = (suc k, omega arith, at)

here : (s : List ℕ) (ss : List (List ℕ)) → Contains (s ∷ ss) s
here s ss = (0, omega arith, refl)

one_of : (s x : List ℕ) (ss : List (List ℕ)) → Contains (s ∷ ss) x → (x ≡ s) ⊎ Contains ss x
one_of s x ss (zero, lt, at) = inl (sym at)
one_of s x ss (suc k, lt, at) = inr (k, omega arith, at)

apart : (x s text : List ℕ) → x ≡ s → starts_with nat_eq text x ≡ true → starts_with nat_eq text s ≡ false → ⊥
apart x s text same front other = let also = rw same at front in cc

greatest-step : (s : List ℕ) (ss : List (List ℕ)) (text : List ℕ) (b : Bool) → starts_with nat_eq text s ≡ b → IsGreatest ss text (longest_of ss text)
    → IsGreatest (s ∷ ss) text (if b then max (length s) (longest_of ss text) else longest_of ss text)
greatest-step s ss text true h r = record {
  found = λ some. elim (cases_lt (length s) (longest_of ss text)) [
    | inl lt ↦ let (x, one, front, len) = r.found (omega arith) in (x, there s x ss one, front, omega arith)
    | inr le ↦ (s, here s ss, h, omega arith)
  ];
  above = λ x one front. elim (one_of s x ss one) [
    | inl same ↦ omega (arith, ap length same)
    | inr other ↦ omega (arith, r.above x other front)
  ];
}
greatest-step s ss text false h r = record {
  found = λ some. let (x, one, front, len) = r.found some in (x, there s x ss one, front, len);
  above = λ x one front. elim (one_of s x ss one) [
    | inl same ↦ absurd (apart x s text same front h)
    | inr other ↦ r.above x other front
  ];
}

pub greatest : (ss : List (List ℕ)) (text : List ℕ) → IsGreatest ss text (longest_of ss text)
greatest [] text = record { found = λ some. absurd (omega arith); above = λ s (k, lt, at) h. absurd (omega arith) }
greatest (s ∷ ss) text = greatest-step s ss text (starts_with nat_eq text s) refl (greatest ss text)

longest_by : (text s : List ℕ) (n : ℕ) → Contains symbols s → text ≡ s ++ drop (length s) text → length s ≡ n → ((x : List ℕ) → Contains symbols x → starts_with nat_eq text x ≡ true → length x ≤ n) → IsLongestAt text n
longest_by text s n one cut len above =
    let front : take (length s) text ≡ s = append_cancel_right (take (length s) text) s (drop (length s) text) (take-append-drop (length s) text ∙ cut) in
    rw (← len) (record {
      within = omega (arith, ap length cut, length-append s (drop (length s) text));
      one = rw front one;
      longest = λ other more' one' e. rw front (omega (arith, above other one' (starts-from text other more' (sym (take-append-drop (length s) text) ∙ e))));
    })

pub longest_at : (text : List ℕ) (n : ℕ) → n ≡ longest_of symbols text → (n ≡ 0 → ⊥) → IsLongestAt text n
longest_at text n e some =
    let r = greatest symbols text in
    let (s, one, front, len) = r.found (omega arith) in
    longest_by text s n one (starts-true text s front) (len ∙ sym e) (λ x one' front'. omega (arith, r.above x one' front'))

no_symbol : (text : List ℕ) → longest_of symbols text ≡ 0 → HasNoSymbol text
no_symbol text none [] rest e one = let kind = symbol_kind [] one in cc
no_symbol text none (b ∷ symbol) rest e one = omega (arith, (greatest symbols text).above (b ∷ symbol) one (starts-from text (b ∷ symbol) rest e))

pub no_symbol_at : (text : List ℕ) (n : ℕ) → n ≡ longest_of symbols text → n ≡ 0 → HasNoSymbol text
no_symbol_at text n e none = no_symbol text (sym e ∙ none)
