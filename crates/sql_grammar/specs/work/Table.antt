-- The table of the walk: the items that stand in an item's place after a token (own).
use Rattle.std.specs.Prelude.{◌≡◌, ℕ, Bool, true, false, List, [], ◌∷◌, map, Option, Some, None, MatchOption, cond, nat_eq}
use Rattle.std.specs.Borrow.{Bor}
use Rattle.sql_grammar.specs.declared.class.Free.TheVariants.{Advise, Analyze, Between, By, Character, Check, Common, Copy, Csv, Distinct, Explain, First, Format, Full, Histogram, In, Include, Index, Last, Left, Natural, Nulls, Outer, Pages, Plan, Right, Rows, Statistics, Stdin, Time, Timestamp, Use, Varying, Without, Zone}
use Rattle.sql_grammar.specs.declared.class.Free.{Free}
use Rattle.sql_grammar.specs.declared.class.Word.{Word}
use Rattle.sql_grammar.specs.declared.class.Word.TheVariants.{And, As, Asc, Create, Cross, Desc, False, From, Group, Inner, Is, Join, Limit, Not, Null, Offset, On, Or, Order, Select, Table, True, Using, Where, With}
use Rattle.sql_grammar.specs.declared.class.Symbol.{Symbol}
use Rattle.sql_grammar.specs.declared.class.Symbol.TheVariants.{Open, Close, Comma, Dot, Minus, Star}
use Rattle.sql_grammar.specs.declared.class.Class.{Class}
use Rattle.sql_grammar.specs.declared.class.Class.TheVariants.{Key, Mark, Name, Number, Quoted, Operator, Semicolon, End}
use Rattle.sql_grammar.specs.declared.rows.TheConstants as rows
use Rattle.sql_grammar.specs.declared.table.Item.{Item}
use Rattle.sql_grammar.specs.declared.table.Item.TheVariants.{Keyword, Sign, FreeWord, Label, Digits, QuotedText, Whole, Ends, Stop, Query, ColumnType, MaybeVarying, MaybeModifiers, MoreModifiers, MaybeZone, Nullness, MoreColumns, Result, MoreResults, AfterResult, StarOrLabel, MaybeAlias, MoreJoins, MoreGroups, MaybeWhere, Figures, MaybeCommon, MoreShares, MaybeHistogram, MoreBounds, Literal, Negation, MoreAnds, MoreOrs, Closes, NotEnds, AfterName, AfterColumn, AfterNot, AfterIs, AfterLiteral, AfterTruth, Side, AfterSide, AfterQualifier, MaybeOrder, MoreOrderings, MaybeLimit, MaybeOffset, MaybeDirection, MaybeNulls, FirstOrLast, AfterCreate, MaybeUsing, MaybeClass, MoreKeys, MaybeInclude, MoreNames, AfterExplain, Candidate, MoreCands, AdvisedSelect, MoreAdvised, FirstItem, AfterDistinct, PlainItem, AfterPlain, PlainNext, PlainTail, GroupedItem, AfterGroupedName, MoreGroupedItems, Argument, MaybeGroup, MoreGroupColumns}

-- the items in an item's place; None where the token is not awaited
abbrev pub Expansion : Type 0
Expansion = Option (List Item)

-- lent items, or none, are these
abbrev pub IsExpansion : Option (Bor (List Item)) → Expansion → Type 0
IsExpansion lent items = MatchOption lent (items ≡ None) (λ l. items ≡ Some l.now)

-- the number of a reserved word, by which two are compared
abbrev pub word_code : Word → ℕ
word_code And = 0
word_code As = 1
word_code Asc = 2
word_code Create = 3
word_code Cross = 4
word_code Desc = 5
word_code False = 6
word_code From = 7
word_code Group = 8
word_code Inner = 9
word_code Is = 10
word_code Join = 11
word_code Limit = 12
word_code Not = 13
word_code Null = 14
word_code Offset = 15
word_code On = 16
word_code Or = 17
word_code Order = 18
word_code Select = 19
word_code Table = 20
word_code True = 21
word_code Using = 22
word_code Where = 23
word_code With = 24

-- the number of a symbol
abbrev pub sign_code : Symbol → ℕ
sign_code Open = 0
sign_code Close = 1
sign_code Comma = 2
sign_code Dot = 3
sign_code Minus = 4
sign_code Star = 5

-- the number of a word with a place of its own
abbrev pub free_code : Free → ℕ
free_code Advise = 0
free_code Analyze = 1
free_code Between = 2
free_code By = 3
free_code Character = 4
free_code Check = 5
free_code Common = 6
free_code Copy = 7
free_code Csv = 8
free_code Distinct = 9
free_code Explain = 10
free_code First = 11
free_code Format = 12
free_code Full = 13
free_code Histogram = 14
free_code In = 15
free_code Include = 16
free_code Index = 17
free_code Last = 18
free_code Left = 19
free_code Natural = 20
free_code Nulls = 21
free_code Outer = 22
free_code Pages = 23
free_code Plan = 24
free_code Right = 25
free_code Rows = 26
free_code Statistics = 27
free_code Stdin = 28
free_code Time = 29
free_code Timestamp = 30
free_code Use = 31
free_code Varying = 32
free_code Without = 33
free_code Zone = 34

-- what a row says: the token that it takes, whether it is in the grammar, and the items in the item's place
abbrev pub GrammarRow : Type 0
GrammarRow = Class × Bool × List Item

-- what is said of an item: whether no token need come for it, and its rows
abbrev pub ItemRows : Type 0
ItemRows = Bool × List GrammarRow

-- a constant's rows
abbrev pub rows_said : Bool × record { now : List (Class × Bool × record { now : List Item }) } → ItemRows
rows_said said = (said.0, map (λ row. (row.0, row.1, row.2.now)) said.1.now)

-- rows that are lent
abbrev pub lent_rows : List (Class × Bool × Bor (List Item)) → List GrammarRow
lent_rows rows = map (λ (row : Class × Bool × Bor (List Item)). (row.0, row.1, row.2.now)) rows

-- a row with the first token takes the second; in a row `Name None` is any name
abbrev pub leads : Class → Class → Bool
leads (Key w) (Key v) = nat_eq (word_code v) (word_code w)
leads (Mark s) (Mark v) = nat_eq (sign_code v) (sign_code s)
leads (Name (Some w)) (Name (Some v)) = nat_eq (free_code v) (free_code w)
leads (Name None) (Name _) = true
leads Number Number = true
leads Quoted Quoted = true
leads Operator Operator = true
leads Semicolon Semicolon = true
leads End End = true
leads _ _ = false

-- the items of the first row that takes the token
abbrev pub row_for : List GrammarRow → Class → Expansion
row_for [] t = None
row_for (row ∷ rows) t = cond (leads row.0 t) (cond row.1 (Some row.2) None) (row_for rows t)

-- the row of an item that is a word of its own
abbrev pub lone_row : Class → List GrammarRow
lone_row t = (t, true, []) ∷ []

-- what is said of an item
abbrev pub rows_of_item : Item → ItemRows
rows_of_item Label = rows_said rows.LABEL
rows_of_item Digits = rows_said rows.DIGITS
rows_of_item QuotedText = rows_said rows.QUOTED_TEXT
rows_of_item Whole = rows_said rows.WHOLE
rows_of_item Ends = rows_said rows.ENDS
rows_of_item Stop = rows_said rows.STOP
rows_of_item Query = rows_said rows.QUERY
rows_of_item ColumnType = rows_said rows.COLUMN_TYPE
rows_of_item MaybeVarying = rows_said rows.MAYBE_VARYING
rows_of_item MaybeModifiers = rows_said rows.MAYBE_MODIFIERS
rows_of_item MoreModifiers = rows_said rows.MORE_MODIFIERS
rows_of_item MaybeZone = rows_said rows.MAYBE_ZONE
rows_of_item Nullness = rows_said rows.NULLNESS
rows_of_item MoreColumns = rows_said rows.MORE_COLUMNS
rows_of_item Result = rows_said rows.RESULT
rows_of_item MoreResults = rows_said rows.MORE_RESULTS
rows_of_item AfterResult = rows_said rows.AFTER_RESULT
rows_of_item StarOrLabel = rows_said rows.STAR_OR_LABEL
rows_of_item MaybeAlias = rows_said rows.MAYBE_ALIAS
rows_of_item MoreJoins = rows_said rows.MORE_JOINS
rows_of_item MoreGroups = rows_said rows.MORE_GROUPS
rows_of_item MaybeWhere = rows_said rows.MAYBE_WHERE
rows_of_item Figures = rows_said rows.FIGURES
rows_of_item MaybeCommon = rows_said rows.MAYBE_COMMON
rows_of_item MoreShares = rows_said rows.MORE_SHARES
rows_of_item MaybeHistogram = rows_said rows.MAYBE_HISTOGRAM
rows_of_item MoreBounds = rows_said rows.MORE_BOUNDS
rows_of_item Literal = rows_said rows.LITERAL
rows_of_item Negation = rows_said rows.NEGATION
rows_of_item MoreAnds = rows_said rows.MORE_ANDS
rows_of_item MoreOrs = rows_said rows.MORE_ORS
rows_of_item Closes = rows_said rows.CLOSES
rows_of_item NotEnds = rows_said rows.NOT_ENDS
rows_of_item AfterName = rows_said rows.AFTER_NAME
rows_of_item AfterColumn = rows_said rows.AFTER_COLUMN
rows_of_item AfterNot = rows_said rows.AFTER_NOT
rows_of_item AfterIs = rows_said rows.AFTER_IS
rows_of_item AfterLiteral = rows_said rows.AFTER_LITERAL
rows_of_item AfterTruth = rows_said rows.AFTER_TRUTH
rows_of_item Side = rows_said rows.SIDE
rows_of_item AfterSide = rows_said rows.AFTER_SIDE
rows_of_item AfterQualifier = rows_said rows.AFTER_QUALIFIER
rows_of_item MaybeOrder = rows_said rows.MAYBE_ORDER
rows_of_item MoreOrderings = rows_said rows.MORE_ORDERINGS
rows_of_item MaybeLimit = rows_said rows.MAYBE_LIMIT
rows_of_item MaybeOffset = rows_said rows.MAYBE_OFFSET
rows_of_item MaybeDirection = rows_said rows.MAYBE_DIRECTION
rows_of_item MaybeNulls = rows_said rows.MAYBE_NULLS
rows_of_item FirstOrLast = rows_said rows.FIRST_OR_LAST
rows_of_item AfterCreate = rows_said rows.AFTER_CREATE
rows_of_item MaybeUsing = rows_said rows.MAYBE_USING
rows_of_item MaybeClass = rows_said rows.MAYBE_CLASS
rows_of_item MoreKeys = rows_said rows.MORE_KEYS
rows_of_item MaybeInclude = rows_said rows.MAYBE_INCLUDE
rows_of_item MoreNames = rows_said rows.MORE_NAMES
rows_of_item AfterExplain = rows_said rows.AFTER_EXPLAIN
rows_of_item Candidate = rows_said rows.CANDIDATE
rows_of_item MoreCands = rows_said rows.MORE_CANDS
rows_of_item AdvisedSelect = rows_said rows.ADVISED_SELECT
rows_of_item MoreAdvised = rows_said rows.MORE_ADVISED
rows_of_item FirstItem = rows_said rows.FIRST_ITEM
rows_of_item AfterDistinct = rows_said rows.AFTER_DISTINCT
rows_of_item PlainItem = rows_said rows.PLAIN_ITEM
rows_of_item AfterPlain = rows_said rows.AFTER_PLAIN
rows_of_item PlainNext = rows_said rows.PLAIN_NEXT
rows_of_item PlainTail = rows_said rows.PLAIN_TAIL
rows_of_item GroupedItem = rows_said rows.GROUPED_ITEM
rows_of_item AfterGroupedName = rows_said rows.AFTER_GROUPED_NAME
rows_of_item MoreGroupedItems = rows_said rows.MORE_GROUPED_ITEMS
rows_of_item Argument = rows_said rows.ARGUMENT
rows_of_item MaybeGroup = rows_said rows.MAYBE_GROUP
rows_of_item MoreGroupColumns = rows_said rows.MORE_GROUP_COLUMNS
rows_of_item _ = (false, [])

-- the rows of an item
abbrev pub all_rows_of : Item → List GrammarRow
all_rows_of (Keyword w) = lone_row (Key w)
all_rows_of (Sign s) = lone_row (Mark s)
all_rows_of (FreeWord w) = lone_row (Name (Some w))
all_rows_of i = (rows_of_item i).1

-- the whole table
abbrev pub takes_of : Item → Class → Expansion
takes_of i t = row_for (all_rows_of i) t

-- no token need come for it
abbrev pub is_optional : Item → Bool
is_optional i = (rows_of_item i).0

-- the levels of an expression that end with it
abbrev pub level_of : Item → ℕ
level_of Closes = 1
level_of NotEnds = 1
level_of _ = 0

-- the most cells that it and what comes of it take within a level
abbrev pub room_of : Item → ℕ
room_of Whole = 16
room_of Query = 10
room_of ColumnType = 3
room_of MaybeModifiers = 2
room_of MoreModifiers = 2
room_of MaybeZone = 2
room_of MoreColumns = 5
room_of MoreResults = 2
room_of MoreJoins = 8
room_of MoreGroups = 9
room_of MaybeWhere = 6
room_of Figures = 7
room_of MaybeCommon = 4
room_of MoreShares = 3
room_of MaybeHistogram = 3
room_of MoreBounds = 2
room_of Negation = 4
room_of MoreAnds = 5
room_of MoreOrs = 6
room_of AfterName = 4
room_of AfterColumn = 3
room_of AfterNot = 3
room_of AfterLiteral = 4
room_of AfterTruth = 4
room_of MaybeOrder = 6
room_of MoreOrderings = 5
room_of AfterCreate = 13
room_of MoreKeys = 5
room_of MaybeInclude = 3
room_of MoreNames = 2
room_of AfterExplain = 16
room_of Candidate = 11
room_of MoreCands = 12
room_of AdvisedSelect = 14
room_of MoreAdvised = 15
room_of FirstItem = 16
room_of AfterDistinct = 16
room_of PlainItem = 16
room_of AfterPlain = 16
room_of PlainNext = 16
room_of PlainTail = 10
room_of GroupedItem = 2
room_of AfterGroupedName = 2
room_of MoreGroupedItems = 3
room_of MaybeGroup = 4
room_of MoreGroupColumns = 3
room_of _ = 1

-- an item takes the word that ends a statement
abbrev pub takes_end : Item → Bool
takes_end Whole = true
takes_end Ends = true
takes_end Stop = true
takes_end AfterCreate = true
takes_end AfterExplain = true
takes_end FirstItem = true
takes_end AfterDistinct = true
takes_end PlainItem = true
takes_end AfterPlain = true
takes_end PlainNext = true
takes_end PlainTail = true
takes_end _ = false

-- `;` or the text's end
abbrev pub is_ending : Class → Bool
is_ending Semicolon = true
is_ending End = true
is_ending _ = false
