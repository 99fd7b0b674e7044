-- Which terminal a token is, by its bytes (PostgreSQL manual, chapter SQL Syntax, Lexical Structure).
use Rattle.std.specs.Prelude.{ℕ, ◌-◌, Bool, true, false, List, [], ◌∷◌, codes, length, map, take, drop, slice_range, Option, Some, None, cond, nat_eq}
use Rattle.std.specs.List.{find}
use Rattle.std.specs.Str.{bytes_eq}
use Rattle.std.specs.Char.{to_ascii_lowercase}
use Rattle.sql_lex.specs.declared.tokens.Token.{Token}
use Rattle.sql_lex.specs.declared.tokens.Kind.{Kind}
use Rattle.sql_lex.specs.declared.tokens.Kind.TheVariants.{Word as WordKind, Number as NumberKind, Quoted as QuotedKind, Symbol as SymbolKind, End as EndKind}
use Rattle.sql_grammar.specs.declared.class.Word.{Word}
use Rattle.sql_grammar.specs.declared.class.Word.TheVariants.{And, As, Asc, Create, Cross, Desc, False, From, Group, Inner, Is, Join, Limit, Not, Null, Offset, On, Or, Order, Select, Table, True, Using, Where, With}
use Rattle.sql_grammar.specs.declared.class.Free.{Free}
use Rattle.sql_grammar.specs.declared.class.Free.TheVariants.{Advise, Analyze, Between, By, Character, Check, Common, Copy, Csv, Distinct, Explain, First, Format, Full, Histogram, In, Include, Index, Last, Left, Natural, Nulls, Outer, Pages, Plan, Right, Rows, Statistics, Stdin, Time, Timestamp, Use, Varying, Without, Zone}
use Rattle.sql_grammar.specs.declared.class.Symbol.TheVariants.{Open, Close, Comma, Dot, Minus, Star}
use Rattle.sql_grammar.specs.Terminals.{Ident, free, other, Terminal, t_key, t_mark, t_name, t_number, t_quoted, t_operator, t_semicolon, t_end}

-- the reserved words in small letters
abbrev pub spelling_of : Word → List ℕ
spelling_of And = codes "and"
spelling_of As = codes "as"
spelling_of Asc = codes "asc"
spelling_of Create = codes "create"
spelling_of Cross = codes "cross"
spelling_of Desc = codes "desc"
spelling_of False = codes "false"
spelling_of From = codes "from"
spelling_of Group = codes "group"
spelling_of Inner = codes "inner"
spelling_of Is = codes "is"
spelling_of Join = codes "join"
spelling_of Limit = codes "limit"
spelling_of Not = codes "not"
spelling_of Null = codes "null"
spelling_of Offset = codes "offset"
spelling_of On = codes "on"
spelling_of Or = codes "or"
spelling_of Order = codes "order"
spelling_of Select = codes "select"
spelling_of Table = codes "table"
spelling_of True = codes "true"
spelling_of Using = codes "using"
spelling_of Where = codes "where"
spelling_of With = codes "with"

-- the words with a place of their own that may be names, in small letters
abbrev pub free_spelling_of : Free → List ℕ
free_spelling_of Advise = codes "advise"
free_spelling_of Analyze = codes "analyze"
free_spelling_of Between = codes "between"
free_spelling_of By = codes "by"
free_spelling_of Character = codes "character"
free_spelling_of Check = codes "check"
free_spelling_of Common = codes "common"
free_spelling_of Copy = codes "copy"
free_spelling_of Csv = codes "csv"
free_spelling_of Distinct = codes "distinct"
free_spelling_of Explain = codes "explain"
free_spelling_of First = codes "first"
free_spelling_of Format = codes "format"
free_spelling_of Full = codes "full"
free_spelling_of Histogram = codes "histogram"
free_spelling_of In = codes "in"
free_spelling_of Include = codes "include"
free_spelling_of Index = codes "index"
free_spelling_of Last = codes "last"
free_spelling_of Left = codes "left"
free_spelling_of Natural = codes "natural"
free_spelling_of Nulls = codes "nulls"
free_spelling_of Outer = codes "outer"
free_spelling_of Pages = codes "pages"
free_spelling_of Plan = codes "plan"
free_spelling_of Right = codes "right"
free_spelling_of Rows = codes "rows"
free_spelling_of Statistics = codes "statistics"
free_spelling_of Stdin = codes "stdin"
free_spelling_of Time = codes "time"
free_spelling_of Timestamp = codes "timestamp"
free_spelling_of Use = codes "use"
free_spelling_of Varying = codes "varying"
free_spelling_of Without = codes "without"
free_spelling_of Zone = codes "zone"

-- all reserved words
abbrev pub reserved_words : List Word
reserved_words = And ∷ As ∷ Asc ∷ Create ∷ Cross ∷ Desc ∷ False ∷ From ∷ Group ∷ Inner ∷ Is ∷ Join ∷ Limit ∷ Not ∷ Null ∷ Offset ∷ On ∷ Or ∷ Order ∷ Select ∷ Table ∷ True ∷ Using ∷ Where ∷ With ∷ []

-- all words with a place of their own that may be names
abbrev pub free_words : List Free
free_words = Advise ∷ Analyze ∷ Between ∷ By ∷ Character ∷ Check ∷ Common ∷ Copy ∷ Csv ∷ Distinct ∷ Explain ∷ First ∷ Format ∷ Full ∷ Histogram ∷ In ∷ Include ∷ Index ∷ Last ∷ Left ∷ Natural ∷ Nulls ∷ Outer ∷ Pages ∷ Plan ∷ Right ∷ Rows ∷ Statistics ∷ Stdin ∷ Time ∷ Timestamp ∷ Use ∷ Varying ∷ Without ∷ Zone ∷ []

-- the reserved word of this spelling
abbrev pub reserved_of : List ℕ → Option Word
reserved_of bytes = find (λ w. bytes_eq bytes (spelling_of w)) reserved_words

-- the word with a place of its own of this spelling
abbrev pub free_of : List ℕ → Option Free
free_of bytes = find (λ w. bytes_eq bytes (free_spelling_of w)) free_words

-- the name of this spelling
abbrev pub ident_of : Option Free → List ℕ → Token → Ident
ident_of (Some w) bytes token = free w token
ident_of None bytes token = other bytes token

-- a word is reserved or a name
abbrev pub word_terminal : Option Word → List ℕ → Token → Terminal
word_terminal (Some w) bytes token = t_key w token
word_terminal None bytes token = t_name (ident_of (free_of bytes) bytes token)

-- a symbol of one byte
abbrev pub mark_of : ℕ → Token → Terminal
mark_of b token =
    cond (nat_eq b 40) (t_mark Open token) (cond (nat_eq b 41) (t_mark Close token) (cond (nat_eq b 44) (t_mark Comma token) (cond (nat_eq b 46) (t_mark Dot token)
    (cond (nat_eq b 45) (t_mark Minus token) (cond (nat_eq b 42) (t_mark Star token) (cond (nat_eq b 59) (t_semicolon token) (t_operator (record { value = b ∷ []; token = token }))))))))

-- a symbol: what is longer than a byte is an operator
abbrev pub symbol_terminal : List ℕ → Token → Terminal
symbol_terminal (b ∷ []) token = mark_of b token
symbol_terminal bytes token = t_operator (record { value = bytes; token = token })

-- what quotes enclose, in which a quote stands twice for one; whether the byte before is the first of two
abbrev pub unquoted : Bool → List ℕ → List ℕ
unquoted second [] = []
unquoted true (b ∷ bs) = unquoted false bs
unquoted false (b ∷ bs) = b ∷ unquoted (nat_eq b 39) bs

-- the value of a quoted text
abbrev pub value_of_quoted : List ℕ → List ℕ
value_of_quoted bytes = unquoted false (take (length bytes - 2) (drop 1 bytes))

-- a token's bytes
abbrev pub bytes_of_token : List ℕ → Token → List ℕ
bytes_of_token text token = slice_range text token.start token.end

-- the terminal of these bytes; letters count without regard to case
abbrev pub terminal_by : Kind → List ℕ → Token → Terminal
terminal_by WordKind bytes token = word_terminal (reserved_of (map to_ascii_lowercase bytes)) (map to_ascii_lowercase bytes) token
terminal_by NumberKind bytes token = t_number (record { value = bytes; token = token })
terminal_by QuotedKind bytes token = t_quoted (record { value = value_of_quoted bytes; token = token })
terminal_by SymbolKind bytes token = symbol_terminal bytes token
terminal_by EndKind bytes token = t_end token

-- the terminal of a token of this text
abbrev pub terminal_of : List ℕ → Token → Terminal
terminal_of text token = terminal_by token.kind (bytes_of_token text token) token
