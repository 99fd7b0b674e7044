-- The forms of tokens (PostgreSQL manual, chapter Lexical Structure; the operators between bars are own).
use Rattle.std.specs.Prelude.{◌≡◌, ◌≤◌, ℕ, true, List, [], ◌∷◌, ◌++◌, length, codes, if◌then◌else◌, Contains}
use Rattle.std.specs.Char.{is_ascii_digit}
use Rattle.std.specs.List.{list_all}
use Rattle.sql_lex.specs.declared.tokens.Kind.{Kind}
use Rattle.sql_lex.specs.declared.tokens.Kind.TheVariants.{Word, Number, Quoted, Symbol, End}
use Rattle.sql_lex.specs.Letters.{begins_word, is_in_word, goes_on_number, is_quote, IsNotNext}

-- a letter or `_`, then letters, digits, `_` and `$`
abbrev pub IsWord : List ℕ → Type 0
IsWord [] = ⊥
IsWord (b ∷ bs) = (begins_word b ≡ true) × (list_all is_in_word bs ≡ true)

-- one digit or more
abbrev pub IsNumber : List ℕ → Type 0
IsNumber [] = ⊥
IsNumber (b ∷ bs) = list_all is_ascii_digit (b ∷ bs) ≡ true

-- a text with each quote mark in it written twice
abbrev pub doubled : List ℕ → List ℕ
doubled [] = []
doubled (b ∷ bs) = if is_quote b then b ∷ b ∷ doubled bs else b ∷ doubled bs

-- a text as it is written between quote marks
abbrev pub quoted : List ℕ → List ℕ
quoted value = 39 ∷ (doubled value ++ 39 ∷ [])

-- punctuation and operators
abbrev pub symbols : List (List ℕ)
symbols =
    codes "(" ∷ codes ")" ∷ codes "," ∷ codes "." ∷ codes ";" ∷ codes "*" ∷ codes "-"
    ∷ codes "<" ∷ codes "<=" ∷ codes "=" ∷ codes ">=" ∷ codes ">" ∷ codes "<>" ∷ codes "!="
    ∷ codes "|<|" ∷ codes "|<=|" ∷ codes "|=|" ∷ codes "|>=|" ∷ codes "|>|" ∷ []

-- no symbol stands at the front that is longer than this one
abbrev pub IsLongest : List ℕ → List ℕ → Type 0
IsLongest symbol rest =
    (other more : List ℕ) → Contains symbols other → symbol ++ rest ≡ other ++ more → length other ≤ length symbol

-- the bytes of a token, and the text after it: each token is as long as possible, and no number runs into a word
abbrev pub IsToken : Kind → List ℕ → List ℕ → Type 0
IsToken Word bytes rest = IsWord bytes × IsNotNext is_in_word rest
IsToken Number bytes rest = IsNumber bytes × IsNotNext goes_on_number rest
IsToken Quoted bytes rest = ((value : List ℕ) × (bytes ≡ quoted value)) × IsNotNext is_quote rest
IsToken Symbol bytes rest = Contains symbols bytes × IsLongest bytes rest
IsToken End bytes rest = (bytes ≡ []) × (rest ≡ [])

-- no token stands at the front: a byte that begins none, a quote that is not closed, or a number that runs into a word
abbrev pub HasNoToken : List ℕ → Type 0
HasNoToken text = (kind : Kind) (bytes rest : List ℕ) → text ≡ bytes ++ rest → ¬ IsToken kind bytes rest
