-- The first byte of a token tells its kind.
use Rattle.std.proofs.Common.{◌≡◌, ℕ, Bool, true, false, List, [], ◌∷◌, ◌++◌, refl, arith}
use Rattle.std.specs.Prelude.{if◌then◌else◌, Contains}
use Rattle.std.specs.Char.{is_ascii_digit}
use Rattle.std.specs.List.{list_all}
use Rattle.std.proofs.lemmas.Bool.{and_parts}
use Rattle.std.proofs.lemmas.Bool.Decides.{nat_tests}
use Rattle.std.proofs.lemmas.List.Sums.{AllPass-from_list_all}
use Rattle.std.proofs.lemmas.List.Elements.{All-contains}
use Rattle.sql_lex.specs.declared.tokens.Kind.{Kind}
use Rattle.sql_lex.specs.declared.tokens.Kind.TheVariants.{Word, Number, Quoted, Symbol, End}
use Rattle.sql_lex.specs.Letters.{begins_word, is_in_word, is_quote}
use Rattle.sql_lex.specs.Forms.{IsToken, symbols}

abbrev pub kind_by : ℕ → Kind
kind_by b = if begins_word b then Word else (if is_ascii_digit b then Number else (if is_quote b then Quoted else Symbol))

-- the kind that a token at the front must have
abbrev pub kind_of : List ℕ → Kind
kind_of [] = End
kind_of (b ∷ bs) = kind_by b

pub digit_apart : (b : ℕ) → is_ascii_digit b ≡ true → begins_word b ≡ false
digit_apart b h = grind (arith, nat_tests)

pub begins_is_in : (b : ℕ) → begins_word b ≡ true → is_in_word b ≡ true
begins_is_in b h = grind (arith, nat_tests)

abbrev pub is_symbol : Kind → Bool
is_symbol Symbol = true
is_symbol _ = false

is_symbol-true : (k : Kind) → is_symbol k ≡ true → k ≡ Symbol
is_symbol-true Symbol h = refl
is_symbol-true Word h = cc
is_symbol-true Number h = cc
is_symbol-true Quoted h = cc
is_symbol-true End h = cc

symbols_are : list_all (λ s. is_symbol (kind_of s)) symbols ≡ true
symbols_are = refl

pub symbol_kind : (s : List ℕ) → Contains symbols s → kind_of s ≡ Symbol
symbol_kind s one = is_symbol-true (kind_of s) (All-contains (λ x. is_symbol (kind_of x) ≡ true) symbols s (AllPass-from_list_all (λ x. is_symbol (kind_of x)) symbols symbols_are) one)

front_kind : (s rest : List ℕ) → kind_of s ≡ Symbol → kind_of (s ++ rest) ≡ Symbol
front_kind [] rest h = cc
front_kind (b ∷ s) rest h = h

word_kind : (bytes rest : List ℕ) → IsToken Word bytes rest → kind_of (bytes ++ rest) ≡ Word
word_kind [] rest h = absurd h.0
word_kind (b ∷ bytes) rest h = rw h.0.0 refl

number_kind : (bytes rest : List ℕ) → IsToken Number bytes rest → kind_of (bytes ++ rest) ≡ Number
number_kind [] rest h = absurd h.0
number_kind (b ∷ bytes) rest h =
    let digit : is_ascii_digit b ≡ true = (and_parts (is_ascii_digit b) (list_all is_ascii_digit bytes) h.0).0 in
    rw (digit_apart b digit, digit) refl

pub kind_is : (kind : Kind) (bytes rest : List ℕ) → IsToken kind bytes rest → kind_of (bytes ++ rest) ≡ kind
kind_is Word bytes rest h = word_kind bytes rest h
kind_is Number bytes rest h = number_kind bytes rest h
kind_is Quoted bytes rest h = rw h.0.1 refl
kind_is Symbol bytes rest h = front_kind bytes rest (symbol_kind bytes h.0)
kind_is End bytes rest h = rw (h.0, h.1) refl
