-- The words of a statement are tokens of which the last alone is an end.
use Rattle.std.proofs.Common.{◌≡◌, ℕ, ◌+◌, ◌-◌, ◌^◌, ◌<◌, ◌≤◌, Bool, true, false, ◌&&◌, not, List, [], ◌∷◌, length, drop, get_or, All, Option, Some, None, refl, zero, suc, sym, ap, ◌∙◌, subst, arith, cond, nat_eq, length-drop, slice_index, MatchBool, Contains, add-zero}
use Rattle.std.specs.List.{list_all}
use Rattle.std.proofs.lemmas.Bool.{and_parts}
use Rattle.std.proofs.lemmas.List.{get_or-take, get_or-drop, length-take-le}
use Rattle.std.proofs.lemmas.List.Elements.{All-cons, All-nil}
use Rattle.sql_lex.specs.declared.tokens.Token.{Token}
use Rattle.sql_lex.specs.declared.tokens.Kind.{Kind}
use Rattle.sql_lex.specs.declared.tokens.Kind.TheVariants.{Word as WordKind, Number as NumberKind, Quoted as QuotedKind, Symbol as SymbolKind, End as EndKind}
use Rattle.sql_lex.specs.Forms.{IsToken, symbols}
use Rattle.sql_lex.specs.Words.{AreWords, IsNext, ends_with, is_last}
use Rattle.sql_grammar.specs.declared.class.Word.{Word}
use Rattle.sql_grammar.specs.work.Terminals.{class_of}
use Rattle.sql_grammar.specs.work.Table.{is_ending}
use Rattle.sql_grammar.specs.Reading.{terminal_by, word_terminal, symbol_terminal, bytes_of_token}
use Rattle.sql_grammar.specs.work.Reading.{is_end, ends_once, IsWithin, AreTokens}

listed : (p : List ℕ → Bool) (xs : List (List ℕ)) (x : List ℕ) (k : ℕ) → list_all p xs ≡ true → k < length xs → get_or xs k x ≡ x → p x ≡ true
listed p [] x k all lt is = absurd (omega (arith, lt))
listed p (y ∷ ys) x zero all lt is = let here = (and_parts _ _ all).0 in subst (λ z. p z ≡ true) is here
listed p (y ∷ ys) x (suc k) all lt is = listed p ys x k (and_parts _ _ all).1 (omega (arith, lt)) is

-- a symbol has bytes, and is an end exactly where the first is `;`
abbrev symbol_test : Token → List ℕ → Bool
symbol_test t bytes =
    cond (nat_eq (slice_index bytes 0) 59) (is_ending (class_of (symbol_terminal bytes t))) (not (is_ending (class_of (symbol_terminal bytes t)))) && not (nat_eq (length bytes) 0)

symbols-tested : (t : Token) → list_all (symbol_test t) symbols ≡ true
symbols-tested t = refl

same-test : (a b : Bool) → cond a b (not b) ≡ true → a ≡ b
same-test true true e = refl
same-test true false e = absurd (cc)
same-test false true e = absurd (cc)
same-test false false e = refl

some-test : (bytes : List ℕ) → not (nat_eq (length bytes) 0) ≡ true → 1 ≤ length bytes
some-test [] e = absurd (cc)
some-test (b ∷ bs) e = omega arith

symbol-is : (t : Token) (bytes : List ℕ) → Contains symbols bytes → symbol_test t bytes ≡ true
symbol-is t bytes one = listed (symbol_test t) symbols bytes one.0 (symbols-tested t) one.1 one.2

-- a token that does not end its statement has bytes
some-bytes : (t : Token) (kind : Kind) (bytes rest : List ℕ) (first : Bool) → IsToken kind bytes rest → ends_with kind first ≡ false → 1 ≤ length bytes
some-bytes t WordKind [] rest first form e = absurd form.0
some-bytes t WordKind (b ∷ bs) rest first form e = omega arith
some-bytes t NumberKind [] rest first form e = absurd form.0
some-bytes t NumberKind (b ∷ bs) rest first form e = omega arith
some-bytes t QuotedKind bytes rest first ((value, is), next) e = let same = ap length is in omega (arith, same)
some-bytes t SymbolKind bytes rest first (one, longest) e = some-test bytes (and_parts _ _ (symbol-is t bytes one)).1
some-bytes t EndKind bytes rest first form e = absurd (cc)

word-goes-on : (o : Option Word) (small : List ℕ) (t : Token) → is_ending (class_of (word_terminal o small t)) ≡ false
word-goes-on (Some w) small t = refl
word-goes-on None small t = refl

same-end : (t : Token) (kind : Kind) (bytes rest : List ℕ) (first : Bool) → IsToken kind bytes rest → (1 ≤ length bytes → first ≡ nat_eq (slice_index bytes 0) 59) →
    ends_with kind first ≡ is_ending (class_of (terminal_by kind bytes t))
same-end t WordKind bytes rest first form is = sym (word-goes-on _ _ _)
same-end t NumberKind bytes rest first form is = refl
same-end t QuotedKind bytes rest first form is = refl
same-end t SymbolKind bytes rest first (one, longest) is =
    let parts = and_parts _ _ (symbol-is t bytes one) in
    is (some-test bytes parts.1) ∙ same-test _ _ parts.0
same-end t EndKind bytes rest first form is = refl

length-bytes : (text : List ℕ) (t : Token) → t.end ≤ length text → length (bytes_of_token text t) ≡ t.end - t.start
length-bytes text t le = length-take-le (t.end - t.start) (drop t.start text) (omega (arith, length-drop t.start text))

first-byte : (text : List ℕ) (t : Token) → t.end ≤ length text → 1 ≤ length (bytes_of_token text t) → nat_eq (slice_index text t.start) 59 ≡ nat_eq (slice_index (bytes_of_token text t) 0) 59
first-byte text t le some =
    let n = length-bytes text t le in
    ap (λ b. nat_eq b 59) (sym (get_or-take (t.end - t.start) (drop t.start text) 0 0 (omega (arith, n, some)) ∙ (get_or-drop t.start text 0 0 ∙ ap (λ k. get_or text k 0) (add-zero t.start))))

ends-alike : (text : List ℕ) (from : ℕ) (t : Token) → IsNext text from t → is_last text t ≡ is_end text t
ends-alike text from t next = same-end t t.kind (bytes_of_token text t) (drop t.end text) (nat_eq (slice_index text t.start) 59) next.form (first-byte text t next.within)

pub inside-by : (text : List ℕ) (t : Token) (ts : List Token) (b : Bool) → ((from : ℕ) → AreWords text from ts → All (IsWithin text) ts) → MatchBool b (ts ≡ []) (AreWords text t.end ts) → All (IsWithin text) ts
inside-by text t ts true more w = subst (All (IsWithin text)) (sym w) (All-nil (IsWithin text))
inside-by text t ts false more w = more t.end w

pub words-inside : (text : List ℕ) (from : ℕ) (tokens : List Token) → AreWords text from tokens → All (IsWithin text) tokens
words-inside text from [] w = absurd w
words-inside text from (t ∷ ts) w =
    All-cons (IsWithin text) t ts (record { ordered = w.0.order; inside = w.0.within }) (inside-by text t ts (is_last text t) (λ f. words-inside text f ts) w.1)

few-by : (text : List ℕ) (from : ℕ) (t : Token) (ts : List Token) (b : Bool) → IsNext text from t → is_last text t ≡ b → (AreWords text t.end ts → length ts + t.end ≤ length text + 1) →
    MatchBool b (ts ≡ []) (AreWords text t.end ts) → length (t ∷ ts) + from ≤ length text + 1
few-by text from t ts true next is more w =
    let none = ap length w in omega (arith, none, next.gap.order, next.order, next.within)
few-by text from t ts false next is more w =
    let rest = more w in
    let some = some-bytes t t.kind (bytes_of_token text t) (drop t.end text) _ next.form is in
    let n = length-bytes text t next.within in
    omega (arith, rest, some, n, next.gap.order, next.order, next.within)

few : (text : List ℕ) (from : ℕ) (tokens : List Token) → AreWords text from tokens → length tokens + from ≤ length text + 1
few text from [] w = absurd w
few text from (t ∷ ts) w = few-by text from t ts (is_last text t) w.0 refl (few text t.end ts) w.1

once-by : (text : List ℕ) (t : Token) (ts : List Token) (b : Bool) → is_end text t ≡ b → (AreWords text t.end ts → ends_once text ts ≡ true) → MatchBool b (ts ≡ []) (AreWords text t.end ts) →
    cond b (nat_eq (length ts) 0) (ends_once text ts) ≡ true
once-by text t ts true is more w = ap (λ l. nat_eq (length l) 0) w
once-by text t ts false is more w = more w

once : (text : List ℕ) (from : ℕ) (tokens : List Token) → AreWords text from tokens → ends_once text tokens ≡ true
once text from [] w = absurd w
once text from (t ∷ ts) w =
    once-by text t ts (is_end text t) refl (once text t.end ts) (subst (λ b. MatchBool b (ts ≡ []) (AreWords text t.end ts)) (ends-alike text from t w.0) w.1)

pub words-are-tokens : (text : List ℕ) (from : ℕ) (tokens : List Token) → AreWords text from tokens → length text ≤ 2 ^ 31 → AreTokens text tokens
words-are-tokens text from tokens w short = record {
  inside = words-inside text from tokens w;
  few = omega (arith, few text from tokens w, short);
  last = once text from tokens w;
}
