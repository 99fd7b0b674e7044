-- The statements, as they are written, each word with its token: a type for each production, a case for each spelling of it
-- (PostgreSQL manual, chapters SQL Syntax and SQL Commands, cut down to this program's statements).
use Rattle.std.specs.Prelude.{Bool, true, false, ◌||◌, List, [], ◌∷◌}
use Rattle.sql_lex.specs.declared.tokens.Token.{Token}
use Rattle.sql_grammar.specs.declared.class.Free.TheVariants.{Full, Left, Natural, Nulls as NullsWord, Outer, Right}
use Rattle.sql_grammar.specs.declared.offered.TheConstants.{READS_ADVISE, READS_ANALYZE, READS_CHECK, READS_DISTINCT, READS_GROUPS, READS_LISTS, READS_PLAN, READS_TABLE, READS_WINDOW}
use Rattle.sql_grammar.specs.Terminals.{Ident, Said, free}

-- the token of a reserved word
abbrev pub Key : Type 0
Key = Token

-- the token of a symbol: a parenthesis, a comma, a dot, a minus or a star
abbrev pub Mark : Type 0
Mark = Token

-- a production that a script may have so far (own)
abbrev pub IsOffered : Bool → Type 0
IsOffered true = Unit {0}
IsOffered false = ⊥

-- col = name ["." name]
pub data Col : Type 0 where
  bare : Ident → Col
  qualified : Ident → Mark → Ident → Col

-- TRUE, FALSE and NULL
pub data Constant : Type 0 where
  yes : Constant
  no : Constant
  unknown : Constant

-- lit = ["-"] number | quoted | TRUE | FALSE | NULL
pub data Lit : Type 0 where
  number : Said → Lit
  negative : Mark → Said → Lit
  quoted : Said → Lit
  constant : Constant → Key → Lit

-- operand = col | lit | name quoted
pub data OperandTree : Type 0 where
  column : Col → OperandTree
  literal : Lit → OperandTree
  typed : Ident → Said → OperandTree

-- [NOT], before IN or BETWEEN
pub data Negated : Type 0 where
  no_not : Negated
  not_before : Key → Negated

mutual
  -- expr = conj { OR conj }
  pub data Expr : Type 0 where
    either_of : Conj → Ors → Expr

  -- { OR conj }
  pub data Ors : Type 0 where
    no_or : Ors
    or_conj : Key → Conj → Ors → Ors

  -- conj = neg { AND neg }
  pub data Conj : Type 0 where
    both_of : Neg → Ands → Conj

  -- { AND neg }
  pub data Ands : Type 0 where
    no_and : Ands
    and_neg : Key → Neg → Ands → Ands

  -- neg = NOT neg | atom
  pub data Neg : Type 0 where
    negated : Key → Neg → Neg
    plain : Atom → Neg

  -- atom = "(" expr ")" | operand op operand | col IS [NOT] NULL | col [NOT] IN "(" lit { "," lit } ")"
  --      | operand [NOT] BETWEEN operand AND operand | col | TRUE | FALSE | NULL
  pub data Atom : Type 0 where
    parens : Mark → Expr → Mark → Atom
    compare : OperandTree → Said → OperandTree → Atom
    is_null : Col → Key → Key → Atom
    is_not_null : Col → Key → Key → Key → Atom
    in_list : IsOffered READS_LISTS → Col → Negated → Token → Mark → Lit → List (Mark × Lit) → Mark → Atom
    between : IsOffered READS_LISTS → OperandTree → Negated → Token → OperandTree → Key → OperandTree → Atom
    column_alone : Col → Atom
    constant_alone : Constant → Key → Atom

-- [NOT NULL | NULL]
pub data Nulls : Type 0 where
  unwritten : Nulls
  not_null : Key → Key → Nulls
  nullable : Key → Nulls

-- [modifiers], modifiers = "(" number { "," number } ")"
pub data Modifiers : Type 0 where
  no_modifiers : Modifiers
  modifiers : Mark → Said → List (Mark × Said) → Mark → Modifiers

-- type = name [modifiers] | CHARACTER VARYING [modifiers] | TIMESTAMP [modifiers] WITH TIME ZONE | TIMESTAMP [modifiers] WITHOUT TIME ZONE
pub data TypeTree : Type 0 where
  named_type : Ident → Modifiers → TypeTree
  character_varying : Token → Token → Modifiers → TypeTree
  timestamp_with_zone : Token → Modifiers → Key → Token → Token → TypeTree
  timestamp_without_zone : Token → Modifiers → Token → Token → Token → TypeTree

-- coldef = name type [NOT NULL | NULL]
pub data ColDef : Type 0 where
  coldef : Ident → TypeTree → Nulls → ColDef

-- item = "*" | name "." "*" | col
pub data Output : Type 0 where
  every : Mark → Output
  every_of : Ident → Mark → Mark → Output
  one : Col → Output

-- the name is none of the words of outer joins: behind a table's name these are no alias without AS, as in PostgreSQL
abbrev pub IsBareAlias : Ident → Type 0
IsBareAlias (free Full _) = ⊥
IsBareAlias (free Left _) = ⊥
IsBareAlias (free Natural _) = ⊥
IsBareAlias (free Outer _) = ⊥
IsBareAlias (free Right _) = ⊥
IsBareAlias _ = Unit {0}

-- [AS name | bare], bare a name but full, left, natural, outer and right
pub data Alias : Type 0 where
  no_alias : Alias
  bare_alias : (n : Ident) → IsBareAlias n → Alias
  as_alias : Key → Ident → Alias

-- from = name [AS name | bare]
pub data Relation : Type 0 where
  relation : Ident → Alias → Relation

-- [INNER]
pub data Inner : Type 0 where
  no_inner : Inner
  inner : Key → Inner

-- join = [INNER] JOIN from ON expr | CROSS JOIN from
pub data Join : Type 0 where
  join_on : Inner → Key → Relation → Key → Expr → Join
  cross_join : Key → Key → Relation → Join

-- group = from { join }
pub data Group : Type 0 where
  group_of : Relation → List Join → Group

-- [WHERE expr]
pub data Where : Type 0 where
  no_where : Where
  where_expr : Key → Expr → Where

-- select = SELECT item { "," item } FROM group { "," group } [WHERE expr]
pub data Select : Type 0 where
  select_from : Key → Output → List (Mark × Output) → Key → Group → List (Mark × Group) → Where → Select

-- a statement's end: ";" or the text's end
pub data Ending : Type 0 where
  semicolon : Token → Ending
  text_end : Token → Ending

-- [ASC | DESC]
pub data Direction : Type 0 where
  no_direction : Direction
  ascending : Key → Direction
  descending : Key → Direction

-- [NULLS FIRST | NULLS LAST]
pub data NullsEnd : Type 0 where
  no_nulls_end : NullsEnd
  nulls_first : Token → Token → NullsEnd
  nulls_last : Token → Token → NullsEnd

-- ord = col [ASC | DESC] [NULLS FIRST | NULLS LAST]
pub data Ordering : Type 0 where
  ordering : Col → Direction → NullsEnd → Ordering

-- [ORDER BY ord { "," ord }]
pub data OrderBy : Type 0 where
  no_order : OrderBy
  order_by : Key → Token → Ordering → List (Mark × Ordering) → OrderBy

-- [LIMIT number]
pub data LimitTree : Type 0 where
  no_limit : LimitTree
  most_rows : IsOffered READS_WINDOW → Key → Said → LimitTree

-- [OFFSET number]
pub data Offset : Type 0 where
  no_offset : Offset
  skipped_rows : IsOffered READS_WINDOW → Key → Said → Offset

-- window = [LIMIT number] [OFFSET number]
pub data WindowTree : Type 0 where
  window : LimitTree → Offset → WindowTree

-- select [ORDER BY ord { "," ord }] window
pub data WindowedSelect : Type 0 where
  windowed_select : Select → OrderBy → WindowTree → WindowedSelect

-- [EXPLAIN ["(" TABLE ")"]]
pub data Explaining : Type 0 where
  no_explain : Explaining
  explain : Token → Explaining
  explain_table : IsOffered READS_TABLE → Token → Mark → Key → Mark → Explaining

-- ordered = [EXPLAIN ["(" TABLE ")"]] select [ORDER BY ord { "," ord }] window end
pub data OrderedSelect : Type 0 where
  ordered_select : Explaining → Select → OrderBy → WindowTree → Ending → OrderedSelect

-- [EXPLAIN]
pub data MaybeExplain : Type 0 where
  unexplained : MaybeExplain
  explained : Token → MaybeExplain

-- what a call is of: "*" | col
pub data Argument : Type 0 where
  all_rows : Mark → Argument
  of_col : Col → Argument

-- gitem = item | name "(" "*" ")" | name "(" col ")"
pub data GroupedItem : Type 0 where
  plain_item : Output → GroupedItem
  call : Ident → Mark → Argument → Mark → GroupedItem

-- [GROUP BY col { "," col }]
pub data GroupBy : Type 0 where
  no_group_by : GroupBy
  group_by : Key → Token → Col → List (Mark × Col) → GroupBy

-- the item is a call
abbrev pub is_call : GroupedItem → Bool
is_call (plain_item _) = false
is_call (call _ _ _ _) = true

-- one of some items is a call
abbrev pub has_call : List (Mark × GroupedItem) → Bool
has_call [] = false
has_call ((_, i) ∷ is) = is_call i || has_call is

-- GROUP BY is written
abbrev pub is_written : GroupBy → Bool
is_written no_group_by = false
is_written (group_by _ _ _ _) = true

-- a Boolean as a condition
abbrev pub Holds : Bool → Type 0
Holds true = Unit {0}
Holds false = ⊥

-- GROUP BY is written, or an item is a call
abbrev pub IsGrouped : GroupedItem → List (Mark × GroupedItem) → GroupBy → Type 0
IsGrouped i is b = Holds (is_written b || (is_call i || has_call is))

-- gselect = gitem { "," gitem } FROM group { "," group } [WHERE expr] [GROUP BY col { "," col }] [ORDER BY ord { "," ord }] end, with
-- GROUP BY or a call
--         | DISTINCT item { "," item } FROM group { "," group } [WHERE expr] [ORDER BY ord { "," ord }] end
pub data GroupedSelect : Type 0 where
  distinct_select : IsOffered READS_DISTINCT → Token → Output → List (Mark × Output) → Key → Group → List (Mark × Group) → Where → OrderBy → Ending → GroupedSelect
  grouped_select : (i : GroupedItem) (is : List (Mark × GroupedItem)) → Key → Group → List (Mark × Group) → Where → (b : GroupBy) → IsGrouped i is b → OrderBy → Ending → GroupedSelect

-- the name is not `nulls`: behind a key's column that word begins NULLS FIRST or NULLS LAST
abbrev pub IsClassName : Ident → Type 0
IsClassName (free NullsWord _) = ⊥
IsClassName _ = Unit {0}

-- [name], an operator class
pub data ClassTree : Type 0 where
  no_class : ClassTree
  op_class : (n : Ident) → IsClassName n → ClassTree

-- key = name [name] [ASC | DESC] [NULLS FIRST | NULLS LAST]
pub data KeyTree : Type 0 where
  index_key : Ident → ClassTree → Direction → NullsEnd → KeyTree

-- [USING name]
pub data Using : Type 0 where
  no_using : Using
  using_method : Key → Ident → Using

-- [INCLUDE "(" name { "," name } ")"]
pub data Include : Type 0 where
  no_include : Include
  include_columns : Token → Mark → Ident → List (Mark × Ident) → Mark → Include

-- index = CREATE INDEX name ON name [USING name] "(" key { "," key } ")" [INCLUDE "(" name { "," name } ")"] [WHERE expr] end
pub data CreateIndex : Type 0 where
  index_on : Key → Token → Ident → Key → Ident → Using → Mark → KeyTree → List (Mark × KeyTree) → Mark → Include → Where → Ending → CreateIndex

-- cand = name ON name [USING name] "(" key { "," key } ")" [INCLUDE "(" name { "," name } ")"] [WHERE expr]: CREATE INDEX without
-- its first two words and its end
pub data Cand : Type 0 where
  cand_on : Ident → Key → Ident → Using → Mark → KeyTree → List (Mark × KeyTree) → Mark → Include → Where → Cand

-- advised = "(" select [ORDER BY ord { "," ord }] window ")"
pub data Advised : Type 0 where
  advised : Mark → WindowedSelect → Mark → Advised

-- advise = ADVISE number "(" cand { "," cand } ")" advised { advised } end
pub data Advise : Type 0 where
  advise_of : IsOffered READS_ADVISE → Token → Said → Mark → Cand → List (Mark × Cand) → Mark → Advised → List Advised → Ending → Advise

-- a common value and its share = lit number
pub data Share : Type 0 where
  share : Lit → Said → Share

-- [COMMON "(" lit number { "," lit number } ")"]
pub data CommonPart : Type 0 where
  no_common : CommonPart
  common : Token → Mark → Share → List (Mark × Share) → Mark → CommonPart

-- [HISTOGRAM "(" lit { "," lit } ")"]
pub data Histogram : Type 0 where
  no_histogram : Histogram
  histogram : Token → Mark → Lit → List (Mark × Lit) → Mark → Histogram

-- the words of COPY beside its table's name and its text for NULL
pub record CopyWords : Type 0 where
  pub copy : Token
  pub from_at : Key
  pub stdin : Token
  pub with_at : Key
  pub open_at : Mark
  pub format : Token
  pub csv : Token
  pub comma : Mark
  pub null : Key
  pub close_at : Mark
  pub stop : Token

-- the words of STATISTICS of a table's sizes, beside its name and the two numbers
pub record SizesWords : Type 0 where
  pub statistics : Token
  pub rows : Token
  pub pages : Token

-- the words of STATISTICS of a column, beside the two names, the two numbers and the lists
pub record ColumnWords : Type 0 where
  pub statistics : Token
  pub dot : Mark
  pub distinct : Token
  pub nulls : Token

-- statement = [CREATE TABLE name "(" coldef { "," coldef } ")"] end | index | ordered
--           | COPY name FROM STDIN WITH "(" FORMAT CSV "," NULL quoted ")" ";"
--           | STATISTICS name ROWS number PAGES number end
--           | STATISTICS name "." name DISTINCT number NULLS number [COMMON "(" lit number { "," lit number } ")"]
--             [HISTOGRAM "(" lit { "," lit } ")"] end
--           | ANALYZE name end | advise
--           | CHECK select [ORDER BY ord { "," ord }] window ";"
--           | USE PLAN select [ORDER BY ord { "," ord }] ";"
--           | [EXPLAIN] SELECT gselect
pub data Statement : Type 0 where
  empty : Ending → Statement
  create_table : Key → Key → Ident → Mark → ColDef → List (Mark × ColDef) → Mark → Ending → Statement
  create_index : CreateIndex → Statement
  query : OrderedSelect → Statement
  copy : CopyWords → Ident → Said → Statement
  sizes : SizesWords → Ident → Said → Said → Ending → Statement
  column_statistics : ColumnWords → Ident → Ident → Said → Said → CommonPart → Histogram → Ending → Statement
  analyze : IsOffered READS_ANALYZE → Token → Ident → Ending → Statement
  advise : Advise → Statement
  check : IsOffered READS_CHECK → Token → WindowedSelect → Token → Statement
  use_plan : IsOffered READS_PLAN → Token → Token → Select → OrderBy → Token → Statement
  grouped : IsOffered READS_GROUPS → MaybeExplain → Key → GroupedSelect → Statement
