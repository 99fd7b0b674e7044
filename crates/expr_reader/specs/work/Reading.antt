-- Working words beside those of `Reading`.
use Rattle.std.specs.Prelude.{◌≡◌, ℕ, ◌-◌, ◌^◌, min, Bool, true, List, ◌∷◌, ◌++◌, Option, MatchOption}
use Rattle.std.specs.Str.Parse.{digits_value}
use Rattle.pg_value.specs.Fields.{is_numeral}
use Rattle.sql_lex.specs.declared.tokens.Token.{Token}
use Rattle.sql_lex.specs.declared.tokens.Kind.TheVariants.{Number as NumberKind}
use Rattle.sql_grammar.specs.declared.class.Class.{Class}
use Rattle.sql_grammar.specs.declared.class.Free.{Free}
use Rattle.sql_grammar.specs.Terminals.{Terminal, Ident, Said, free, t_mark, t_name, t_number, t_operator, t_quoted}
use Rattle.sql_grammar.specs.work.Terminals.{class_of}
use Rattle.sql_grammar.specs.declared.class.Symbol.TheVariants.{Close}
use Rattle.sql_grammar.specs.Syntax.{Mark}
use Rattle.sql_grammar.specs.Reading.{bytes_of_token}
use Rattle.sql_grammar.specs.work.Unique.{token_in}
use Rattle.expr_reader.specs.declared.cursor.Number.{Number}
use Rattle.expr_reader.specs.declared.cursor.Operator.{Operator}
use Rattle.expr_reader.specs.Operators.{operator_of}
use Rattle.expr_reader.specs.declared.cursor.Spelled.{Spelled}
use Rattle.expr_reader.specs.Reading.{spelled}

-- a word is next, at some token, and `left` is left after it
abbrev pub Begins : (Token → Terminal) → List Terminal → List Terminal → Type 0
Begins word ts left = (token : Token) × (ts ≡ word token ∷ left)

-- a word is not next
abbrev pub BeginsNot : (Token → Terminal) → List Terminal → Type 0
BeginsNot word ts = (left : List Terminal) → ¬ Begins word ts left

-- the word that is not reserved and has its place in the grammar, at a token
abbrev pub free_name : Free → Token → Terminal
free_name wanted = λ token. t_name (free wanted token)

-- a word of a class is next
abbrev pub IsNextClass : Class → List Terminal → Type 0
IsNextClass c ts = (word : Terminal) × (left : List Terminal) × (class_of word ≡ c) × (ts ≡ word ∷ left)

-- a token is that of the next word, where there is one
abbrev pub IsNextToken : Token → List Terminal → Type 0
IsNextToken token ts = (word : Terminal) (left : List Terminal) → ts ≡ word ∷ left → token ≡ token_in word

-- a name of a spelling is next, and `left` is left after it
abbrev pub BeginsName : Spelled → List Terminal → List Terminal → Type 0
BeginsName s ts left = (n : Ident) × (s ≡ spelled n) × (ts ≡ t_name n ∷ left)

-- no name is next
abbrev pub BeginsNoName : List Terminal → Type 0
BeginsNoName ts = (n : Ident) (left : List Terminal) → ¬ (ts ≡ t_name n ∷ left)

-- a quoted text of a value is next, and `left` is left after it
abbrev pub BeginsQuoted : Spelled → List Terminal → List Terminal → Type 0
BeginsQuoted s ts left = ts ≡ t_quoted (record { value = s.bytes; token = s.token }) ∷ left

-- no quoted text is next
abbrev pub BeginsNoQuoted : List Terminal → Type 0
BeginsNoQuoted ts = (value : List ℕ) (token : Token) (left : List Terminal) → ¬ (ts ≡ t_quoted (record { value = value; token = token }) ∷ left)

-- the number that digits write, or 2^64 - 1 where it is more
abbrev pub numbered : Said → Number
numbered said = record { value = min (digits_value 10 said.value) (2 ^ 64 - 1); token = said.token }

-- a number of a value is next, and `left` is left after it
abbrev pub BeginsNumber : Number → List Terminal → List Terminal → Type 0
BeginsNumber n ts left = (said : Said) × (n ≡ numbered said) × (ts ≡ t_number said ∷ left)

-- no number is next
abbrev pub BeginsNoNumber : List Terminal → Type 0
BeginsNoNumber ts = (said : Said) (left : List Terminal) → ¬ (ts ≡ t_number said ∷ left)

-- the number that is next is taken, or none is next and no word is taken
abbrev pub TakesNumber : Option Number → List Terminal → List Terminal → Type 0
TakesNumber taken old new = MatchOption taken ((new ≡ old) × BeginsNoNumber old) (λ n. BeginsNumber n old new)

-- the operator that is spelled
abbrev pub operator_said : Said → Operator
operator_said said = record { op = operator_of said.value; token = said.token }

-- an operator is next, and `left` is left after it
abbrev pub BeginsOperator : Operator → List Terminal → List Terminal → Type 0
BeginsOperator o ts left = (said : Said) × (o ≡ operator_said said) × (ts ≡ t_operator said ∷ left)

-- no operator is next
abbrev pub BeginsNoOperator : List Terminal → Type 0
BeginsNoOperator ts = (said : Said) (left : List Terminal) → ¬ (ts ≡ t_operator said ∷ left)

-- the operator that is next is taken, or none is next and no word is taken
abbrev pub TakesOperator : Option Operator → List Terminal → List Terminal → Type 0
TakesOperator taken old new = MatchOption taken ((new ≡ old) × BeginsNoOperator old) (λ o. BeginsOperator o old new)

-- a number's token is decimal digits
abbrev pub HasDigits : List ℕ → Token → Type 0
HasDigits text token = token.kind ≡ NumberKind → is_numeral (bytes_of_token text token) ≡ true

-- a part with the words of its kind stands first, and no word behind it goes on it
abbrev pub StandsFirst : {A : Type 0} → (A → List Terminal) → (List Terminal → Bool) → List Terminal → Type 0
StandsFirst {A} words ends ts = (x : A) × (rest : List Terminal) × (ends rest ≡ true) × (ts ≡ words x ++ rest)

-- where a part that no word behind it goes on stands first, a property holds of it and of what stands behind it
abbrev pub IfFirst : {A : Type 0} → (A → List Terminal) → (List Terminal → Bool) → List Terminal →
    (A → List Terminal → Type 0) → Type 0
IfFirst {A} words ends ts P = (x : A) (rest : List Terminal) → ends rest ≡ true → ts ≡ words x ++ rest → P x rest

-- where a part that no word behind it goes on stands first, what it means is read, and what stands behind it is left
abbrev pub Yields : {A B : Type 0} → (A → List Terminal) → (List Terminal → Bool) → (A → B) → List Terminal → B →
    List Terminal → Type 0
Yields words ends meaning old read left = IfFirst words ends old (λ x rest. (read ≡ meaning x) × (left ≡ rest))

-- where a part that nothing can go on stands first, a property holds of it and of what stands behind it
abbrev pub IfWords : {A : Type 0} → (A → List Terminal) → List Terminal → (A → List Terminal → Type 0) → Type 0
IfWords {A} words ts P = (x : A) (rest : List Terminal) → ts ≡ words x ++ rest → P x rest

-- where a part that nothing can go on stands first, what it means is read, and what stands behind it is left
abbrev pub YieldsWords : {A B : Type 0} → (A → List Terminal) → (A → B) → List Terminal → B → List Terminal → Type 0
YieldsWords words meaning old read left = IfWords words old (λ x rest. (read ≡ meaning x) × (left ≡ rest))

-- where a word of a kind is next, a property holds of what it says and of what stands behind it
abbrev pub IfNext : {A : Type 0} → (A → Terminal) → List Terminal → (A → List Terminal → Type 0) → Type 0
IfNext {A} word ts P = (x : A) (rest : List Terminal) → ts ≡ word x ∷ rest → P x rest

-- where a word of a kind is next, what it means is read, and what stands behind it is left
abbrev pub YieldsNext : {A B : Type 0} → (A → Terminal) → (A → B) → List Terminal → B → List Terminal → Type 0
YieldsNext word meaning old read left = IfNext word old (λ x rest. (read ≡ meaning x) × (left ≡ rest))

-- where a part that no word behind it goes on stands first, what stands behind it is left
abbrev pub LeavesRest : {A : Type 0} → (A → List Terminal) → (List Terminal → Bool) → List Terminal → List Terminal → Type 0
LeavesRest words ends old left = IfFirst words ends old (λ _ rest. left ≡ rest)

-- where a part that nothing can go on stands first, what stands behind it is left
abbrev pub LeavesWords : {A : Type 0} → (A → List Terminal) → List Terminal → List Terminal → Type 0
LeavesWords words old left = IfWords words old (λ _ rest. left ≡ rest)

-- some parts with commas between them, a word that ends them, and what stands behind it, with these words, are all that is left
abbrev pub StandsList : {A : Type 0} → (A → List (Mark × A) → Mark → List Terminal → List Terminal) → List Terminal → Type 0
StandsList {A} words ts = (x : A) × (xs : List (Mark × A)) × (m : Mark) × (rest : List Terminal) × (ts ≡ words x xs m rest)

-- where a list with commas and the word that ends it stand first, a property holds of them and of what stands behind them
abbrev pub IfList : {A : Type 0} → (A → List (Mark × A) → Mark → List Terminal → List Terminal) → List Terminal →
    (A → List (Mark × A) → Mark → List Terminal → Type 0) → Type 0
IfList {A} words ts P = (x : A) (xs : List (Mark × A)) (m : Mark) (rest : List Terminal) → ts ≡ words x xs m rest → P x xs m rest

-- where a list with commas and the `)` that ends it stand first, the `)` is left, with what stands behind it
abbrev pub LeavesClose : {A : Type 0} → (A → List (Mark × A) → Mark → List Terminal → List Terminal) → List Terminal →
    List Terminal → Type 0
LeavesClose words old left = IfList words old (λ _ _ m rest. left ≡ t_mark Close m ∷ rest)

-- a part and further ones, each with the words of its kind, stand first, and no word behind them goes on them
abbrev pub StandsListed : {A : Type 0} → (A → List Terminal) → (List (Mark × A) → List Terminal) → (List Terminal → Bool) →
    List Terminal → Type 0
StandsListed {A} words more ends ts =
    (x : A) × (xs : List (Mark × A)) × (rest : List Terminal) × (ends rest ≡ true) × (ts ≡ words x ++ (more xs ++ rest))

-- where a part and further ones stand first, a property holds of them and of what stands behind them
abbrev pub IfListed : {A : Type 0} → (A → List Terminal) → (List (Mark × A) → List Terminal) → (List Terminal → Bool) →
    List Terminal →
    (A → List (Mark × A) → List Terminal → Type 0) → Type 0
IfListed {A} words more ends ts P =
    (x : A) (xs : List (Mark × A)) (rest : List Terminal) → ends rest ≡ true → ts ≡ words x ++ (more xs ++ rest) → P x xs rest
