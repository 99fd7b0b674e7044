-- The words of a statement are at most one more than the bytes of the text.
use Rattle.std.proofs.Common.{◌≡◌, ◌≤◌, ◌+◌, ◌-◌, ℕ, Bool, true, false, not, nat_eq, List, [], ◌∷◌, length, length-drop, drop, Contains, MatchBool, refl, ap, arith}
use Rattle.std.specs.Prelude.{slice_range}
use Rattle.std.proofs.lemmas.Bool.{true≢false}
use Rattle.std.proofs.lemmas.List.{length-take-le}
use Rattle.std.proofs.lemmas.List.Folds.{list_all_at}
use Rattle.sql_lex.specs.declared.tokens.Token.{Token}
use Rattle.sql_lex.specs.declared.tokens.Kind.{Kind}
use Rattle.sql_lex.specs.declared.tokens.Kind.TheVariants as kinds
use Rattle.sql_lex.specs.Forms.{IsToken, symbols}
use Rattle.sql_lex.specs.Words.{AreWords, IsNext, ends_with, is_last}

has_bytes : List ℕ → Bool
has_bytes s = not (nat_eq (length s) 0)

symbol-bytes : (bytes : List ℕ) → Contains symbols bytes → 1 ≤ length bytes
unfolding has_bytes
symbol-bytes [] one = absurd (true≢false (list_all_at has_bytes symbols one.0 [] one.1 (ap has_bytes one.2)))
symbol-bytes (b ∷ bs) one = omega arith

-- a token that does not end its statement has bytes
token-bytes : (kind : Kind) (bytes rest : List ℕ) (first : Bool) → IsToken kind bytes rest → ends_with kind first ≡ false → 1 ≤ length bytes
token-bytes kinds.Word [] rest first form e = absurd form.0
token-bytes kinds.Word (b ∷ bs) rest first form e = omega arith
token-bytes kinds.Number [] rest first form e = absurd form.0
token-bytes kinds.Number (b ∷ bs) rest first form e = omega arith
token-bytes kinds.Quoted bytes rest first ((value, is), next) e = let same = ap length is in omega (arith, same)
token-bytes kinds.Symbol bytes rest first (one, longest) e = symbol-bytes bytes one
token-bytes kinds.End bytes rest first form e = absurd (true≢false e)

few-by : (text : List ℕ) (from : ℕ) (t : Token) (ts : List Token) (b : Bool) → IsNext text from t → is_last text t ≡ b → (AreWords text t.end ts → length ts + t.end ≤ length text + 1) →
    MatchBool b (ts ≡ []) (AreWords text t.end ts) → length (t ∷ ts) + from ≤ length text + 1
few-by text from t ts true next is more w = let none = ap length w in omega (arith, none, next.gap.order, next.order, next.within)
few-by text from t ts false next is more w =
    let rest = more w in
    let some = token-bytes t.kind (slice_range text t.start t.end) (drop t.end text) _ next.form is in
    let long = length-take-le (t.end - t.start) (drop t.start text) (omega (arith, length-drop t.start text, next.within)) in
    omega (arith, rest, some, long, next.gap.order, next.order, next.within)

pub few-words : (text : List ℕ) (from : ℕ) (tokens : List Token) → AreWords text from tokens → length tokens + from ≤ length text + 1
few-words text from [] w = absurd w
few-words text from (t ∷ ts) w = few-by text from t ts (is_last text t) w.0 refl (few-words text t.end ts) w.1
