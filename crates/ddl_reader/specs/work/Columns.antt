-- Working words beside those of `Columns`.
use Rattle.std.specs.Prelude.{◌≡◌, ◌⊎◌, drop, Bool, List, [], ◌∷◌, ◌++◌}
use Rattle.sql_lex.specs.declared.tokens.Token.{Token}
use Rattle.sql_grammar.specs.declared.class.Free.TheVariants.{Without}
use Rattle.sql_grammar.specs.declared.class.Symbol.TheVariants.{Close}
use Rattle.sql_grammar.specs.declared.class.Word.TheVariants.{With}
use Rattle.sql_grammar.specs.Syntax.{Mark}
use Rattle.sql_grammar.specs.Terminals.{Terminal, Said, t_key, t_mark}
use Rattle.sql_grammar.specs.Words.{words_of_numbers}
use Rattle.expr_reader.specs.Lists.{further_parts}
use Rattle.expr_reader.specs.declared.cursor.Spelled.{Spelled}
use Rattle.expr_reader.specs.work.Reading.{free_name, numbered, BeginsNot}
use Rattle.ddl_reader.specs.declared.types.Numbers.{Numbers}
use Rattle.ddl_reader.specs.declared.types.Numbers.TheVariants as numbers
use Rattle.ddl_reader.specs.declared.types.TypeRead.{TypeRead}
use Rattle.ddl_reader.specs.Columns.{Kind, Written}

-- the numbers behind a type's words, as they are read: the first two, and whether there are more
abbrev pub numbers_read : List Said → Numbers
numbers_read [] = numbers.None
numbers_read (n ∷ []) = numbers.One (numbered n)
numbers_read (n ∷ k ∷ []) = numbers.Two (numbered n) (numbered k)
numbers_read (n ∷ k ∷ l ∷ ns) = numbers.More (numbered n)

-- further numbers, each behind its comma, a `)` and what stands behind it
abbrev pub words_left : List (Mark × Said) → Mark → List Terminal → List Terminal
words_left ns m rest = words_of_numbers ns ++ t_mark Close m ∷ rest

-- further numbers and a `)` stand first
abbrev pub StandsNumbers : List Terminal → Type 0
StandsNumbers ts = (ns : List (Mark × Said)) × (m : Mark) × (rest : List Terminal) × (ts ≡ words_left ns m rest)

-- where further numbers and a `)` stand first, a property holds of the numbers and of what stands behind the `)`
abbrev pub IfNumbers : List Terminal → (List Said → List Terminal → Type 0) → Type 0
IfNumbers ts P = (ns : List (Mark × Said)) (m : Mark) (rest : List Terminal) → ts ≡ words_left ns m rest → P (further_parts (λ k. k) ns) rest

-- WITH TIME ZONE is taken
abbrev pub IsZoned : List Terminal → List Terminal → Type 0
IsZoned old new = (k : Token) × (left : List Terminal) × (old ≡ t_key With k ∷ left) × (new ≡ drop 2 left)

-- WITHOUT TIME ZONE is taken, or neither it nor WITH is next and no word is taken
abbrev pub IsUnzoned : List Terminal → List Terminal → Type 0
IsUnzoned old new =
    ((k : Token) × (left : List Terminal) × (old ≡ free_name Without k ∷ left) × (new ≡ drop 2 left)) ⊎
    (BeginsNot (t_key With) old × BeginsNot (free_name Without) old × (new ≡ old))

-- a type, as it is read
abbrev pub type_read : Kind → TypeRead
type_read k = record { word = k.word; token = k.at; numbers = numbers_read k.numbers }

-- a column by its name, as it was read, and its type
abbrev pub written_column : Spelled → Kind → Bool → Written
written_column name kind strict = record { name = name.bytes; name_at = name.token; kind = kind; not_null = strict }
