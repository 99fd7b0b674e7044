-- The words of a statement, one after the other.
use Rattle.std.proofs.Common.{◌≡◌, ◌<◌, ℕ, ◌+◌, ◌-◌, true, false, List, [], ◌∷◌, ◌++◌, length, take, drop, refl, arith, append_assoc}
use Rattle.std.specs.Prelude.{slice_range}
use Rattle.std.proofs.lemmas.List.{drop-drop, take-append-drop, length-take}
use Rattle.sql_lex.specs.declared.tokens.Kind.{Kind}
use Rattle.sql_lex.specs.declared.tokens.Kind.TheVariants.{Word, Number, Quoted, Symbol, End}
use Rattle.sql_lex.specs.declared.tokens.Token.{Token}
use Rattle.sql_lex.specs.Blanks.{IsBlank, PassesBlanks, none, more}
use Rattle.sql_lex.specs.Forms.{IsToken}
use Rattle.sql_lex.specs.work.Cuts.{CutsBlank}
use Rattle.sql_lex.specs.Words.{IsNext, is_last, AreWords, IsWordFault}
use Rattle.sql_lex.proofs.KindLaws.{symbol_kind}

one_blank : (text : List ℕ) (n : ℕ) → IsBlank (take n text) (drop n text) → PassesBlanks text (drop n text)
one_blank text n blank =
    let whole = more (take n text) (drop n text) (drop n text) blank (none (drop n text)) in
    rw take-append-drop at whole

passes_one : (a b : List ℕ) (n : ℕ) → PassesBlanks a b → IsBlank (take n b) (drop n b) → PassesBlanks a (drop n b)
passes_one a _ n (none _) blank = one_blank a n blank
passes_one _ b n (more first after _ one rest) blank = more first after (drop n b) one (passes_one after b n rest blank)

-- the white space and comments passed so far, and one more
pub passes_more : (text : List ℕ) (from at n : ℕ) → PassesBlanks (drop from text) (drop at text) → CutsBlank (drop at text) n → PassesBlanks (drop from text) (drop (at + n) text)
passes_more text from at n so cut = rw (← drop-drop n at text) (passes_one (drop from text) (drop at text) n so cut.blank)

some_bytes : (kind : Kind) (bytes rest : List ℕ) → IsToken kind bytes rest → (kind ≡ End → ⊥) → 0 < length bytes
some_bytes kind (b ∷ bytes) rest t h = omega arith
some_bytes Word [] rest t h = absurd t.0
some_bytes Number [] rest t h = absurd t.0
some_bytes Quoted [] rest t h = let e = t.0.1 in cc
some_bytes Symbol [] rest t h = let e = symbol_kind [] t.0 in cc
some_bytes End [] rest t h = absurd (h refl)

goes_on : (text : List ℕ) (t : Token) → is_last text t ≡ false → t.kind ≡ End → ⊥
goes_on text t h e = let last = rw e at h in cc

-- a token that is not the last has bytes
pub longer : (text : List ℕ) (from : ℕ) (t : Token) → IsNext text from t → is_last text t ≡ false → from < t.end
longer text from t next h =
    let some = some_bytes t.kind (slice_range text t.start t.end) (drop t.end text) next.form (goes_on text t h) in
    omega (arith, some, length-take (t.end - t.start) (drop t.start text), next.gap.order)

-- where all words from a token's end on are such, so are they from the token on
pub words_more : (text : List ℕ) (from : ℕ) (t : Token) (ts : List Token) → IsNext text from t → is_last text t ≡ false → AreWords text t.end ts → AreWords text from (t ∷ ts)
words_more text from t ts next h w = (next, rw h w)

pub words_last : (text : List ℕ) (from : ℕ) (t : Token) → IsNext text from t → is_last text t ≡ true → AreWords text from (t ∷ [])
words_last text from t next h = (next, rw h refl)

pub appended : (text : List ℕ) (from : ℕ) (so now : List Token) (t : Token) (ts : List Token) → now ≡ so ++ t ∷ [] → AreWords text from (so ++ (t ∷ ts)) → AreWords text from (now ++ ts)
appended text from so now t ts e w = rw (e, append_assoc) w

pub stops_more : (text : List ℕ) (from place : ℕ) (t : Token) → IsNext text from t → is_last text t ≡ false → IsWordFault text t.end place → IsWordFault text from place
stops_more text from place t next h (before, stops) = (t ∷ before, (next, h, stops))
