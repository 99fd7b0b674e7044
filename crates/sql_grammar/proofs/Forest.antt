-- What the items of a stack may stand for: a part of a statement each.
use Rattle.std.proofs.Common.{◌≡◌, ℕ, ◌+◌, ◌≤◌, List, [], ◌∷◌, ◌++◌, Option, Some, None}
use Rattle.sql_lex.specs.declared.tokens.Token.{Token}
use Rattle.sql_grammar.specs.Terminals.{Terminal, t_key, t_mark, t_name, t_number, t_quoted, t_semicolon, Ident, Said, free}
use Rattle.sql_grammar.specs.declared.class.Word.TheVariants.{Create, From, Is, Not, Select as SelectKey}
use Rattle.sql_grammar.specs.declared.class.Free.TheVariants.{Character, Distinct, Explain, Nulls as NullsWord, Statistics, Timestamp}
use Rattle.sql_grammar.specs.declared.class.Symbol.TheVariants.{Close, Comma, Dot}
use Rattle.sql_grammar.specs.declared.table.Item.{Item}
use Rattle.sql_grammar.specs.declared.table.Item.TheVariants.{Keyword, Sign, FreeWord, Label, Digits, QuotedText, Whole, Ends, Stop, Query, ColumnType, MaybeVarying, MaybeModifiers, MoreModifiers, MaybeZone, Nullness, MoreColumns, Result, MoreResults, AfterResult, StarOrLabel, MaybeAlias, MoreJoins, MoreGroups, MaybeWhere, Figures, MaybeCommon, MoreShares, MaybeHistogram, MoreBounds, Literal, Negation, MoreAnds, MoreOrs, Closes, NotEnds, AfterName, AfterColumn, AfterNot, AfterIs, AfterLiteral, AfterTruth, Side, AfterSide, AfterQualifier, MaybeOrder, MoreOrderings, MaybeLimit, MaybeOffset, MaybeDirection, MaybeNulls, FirstOrLast, AfterCreate, MaybeUsing, MaybeClass, MoreKeys, MaybeInclude, MoreNames, AfterExplain, Candidate, MoreCands, AdvisedSelect, MoreAdvised, FirstItem, AfterDistinct, PlainItem, AfterPlain, PlainNext, PlainTail, GroupedItem, AfterGroupedName, MoreGroupedItems, Argument, MaybeGroup, MoreGroupColumns}
use Rattle.sql_grammar.specs.Syntax.{Key, Mark, Col, Constant, Lit, constant, OperandTree, Ors, Ands, Neg, Atom, Nulls, Modifiers, TypeTree, ColDef, Output, Alias, Join, Group, Where, Select, Share, CommonPart, Histogram, Ending, Statement}
use Rattle.sql_grammar.specs.Words.{words_of, words_of_col, words_of_lit, words_of_operand, words_of_ors, words_of_ands, words_of_neg, words_of_atom, words_of_nulls, words_of_numbers, words_of_modifiers, words_of_type, words_of_columns, words_of_output, words_of_outputs, words_of_alias, words_of_joins, words_of_groups, words_of_where, words_of_select, words_of_common, words_of_shares, words_of_histogram, words_of_bounds, words_of_ending, levels_of, levels_of_joins, levels_of_groups, levels_of_where, levels_of_select, levels_of_ors, levels_of_ands, levels_of_neg, levels_of_atom}
use Rattle.sql_grammar.specs.Syntax.{Direction, NullsEnd, Ordering, OrderBy, LimitTree, Offset}
use Rattle.sql_grammar.specs.Words.{words_of_direction, words_of_nulls_end, words_of_orderings, words_of_order, words_of_limit, words_of_offset}
use Rattle.sql_grammar.specs.Syntax.{ClassTree, KeyTree, Using, Include}
use Rattle.sql_grammar.specs.Syntax.{Cand, Advised, MaybeExplain, Argument as ArgumentTree, GroupedItem as GroupedItemTree, GroupBy}
use Rattle.sql_grammar.specs.Words.{words_of_maybe_explain, words_of_argument, words_of_grouped_item, words_of_grouped_items, words_of_group_by, words_of_group_columns, words_of_cand, words_of_cands, words_of_advised, words_of_more_advised, levels_of_cand, levels_of_cands, levels_of_advised, levels_of_more_advised}
use Rattle.sql_grammar.specs.Words.{words_of_class, words_of_keys, words_of_using, words_of_names, words_of_include}
use Rattle.sql_grammar.specs.work.Machine.{depth_of}

-- an atom that begins with `front` and goes on so; it opens no level
abbrev pub Atom_after : List Terminal → List Terminal → Type 0
Atom_after front ts = (a : Atom) × (words_of_atom a ≡ front ++ ts) × (levels_of_atom a ≡ 0)

-- a STATISTICS that begins so after its table's name; it has no expression
abbrev pub Statement_after : List Terminal → Type 0
Statement_after ts = (k : Token) (n : Ident) (e : Ending) → (x : Statement) × (words_of x ≡ t_name (free Statistics k) ∷ t_name n ∷ (ts ++ words_of_ending e)) × (levels_of x ≡ 0)

-- a statement of these words
abbrev pub Statement_of : ℕ → ℕ → List Terminal → Type 0
Statement_of limit depth ws = (x : Statement) × (words_of x ≡ ws) × (levels_of x + depth ≤ limit)

-- items of a list that stand before another one, each with its comma
abbrev pub words_of_led : List (Output × Mark) → List Terminal
words_of_led [] = []
words_of_led ((o, m) ∷ led) = words_of_output o ++ t_mark Comma m ∷ words_of_led led

-- a SELECT up to an item of its list, and what follows
abbrev pub begun : MaybeExplain → Key → List (Output × Mark) → List Terminal → List Terminal
begun x k led ts = words_of_maybe_explain x ++ t_key SelectKey k ∷ (words_of_led led ++ ts)

-- what an item may stand for, with its words
abbrev pub Kind : Type 1
Kind = (T : Type 0) × (T → List Terminal)

-- a tree within the limit of levels
abbrev within : ℕ → ℕ → (T : Type 0) → (T → ℕ) → (T → List Terminal) → Kind
within limit depth T levels words = ((x : T) × (levels x + depth ≤ limit), λ p. words p.0)

-- words that make something of what stands before them
abbrev behind : (List Terminal → Type 0) → Kind
behind Makes = ((ts : List Terminal) × Makes ts, λ p. p.0)

-- a tree and the parenthesis that closes it
abbrev closed : (T : Type 0) → (T → List Terminal) → Kind
closed T words = (T × Mark, λ p. words p.0 ++ t_mark Close p.1 ∷ [])

-- what an item below which `depth` levels are open stands for
abbrev pub kind_of : ℕ → ℕ → Item → Kind
kind_of limit depth (Keyword w) = (Key, λ k. t_key w k ∷ [])
kind_of limit depth (Sign s) = (Mark, λ m. t_mark s m ∷ [])
kind_of limit depth (FreeWord w) = (Token, λ t. t_name (free w t) ∷ [])
kind_of limit depth Label = (Ident, λ n. t_name n ∷ [])
kind_of limit depth Digits = (Said, λ n. t_number n ∷ [])
kind_of limit depth QuotedText = (Said, λ q. t_quoted q ∷ [])
kind_of limit depth Whole = within limit depth Statement levels_of words_of
kind_of limit depth Ends = (Ending, words_of_ending)
kind_of limit depth Stop = (Token, λ t. t_semicolon t ∷ [])
kind_of limit depth Query = within limit depth Select levels_of_select words_of_select
kind_of limit depth ColumnType = (TypeTree, words_of_type)
kind_of limit depth MaybeVarying = behind (λ ts. (k : Token) (m : Modifiers) → (t : TypeTree) × (words_of_type t ≡ t_name (free Character k) ∷ (ts ++ words_of_modifiers m)))
kind_of limit depth MaybeModifiers = (Modifiers, words_of_modifiers)
kind_of limit depth MoreModifiers = closed (List (Mark × Said)) words_of_numbers
kind_of limit depth MaybeZone = behind (λ ts. (k : Token) (m : Modifiers) → (t : TypeTree) × (words_of_type t ≡ t_name (free Timestamp k) ∷ (words_of_modifiers m ++ ts)))
kind_of limit depth Nullness = (Nulls, words_of_nulls)
kind_of limit depth MoreColumns = closed (List (Mark × ColDef)) words_of_columns
kind_of limit depth Negation = within limit depth Neg levels_of_neg words_of_neg
kind_of limit depth MoreAnds = within limit depth Ands levels_of_ands words_of_ands
kind_of limit depth MoreOrs = within limit depth Ors levels_of_ors words_of_ors
kind_of limit depth Closes = (Mark, λ m. t_mark Close m ∷ [])
kind_of limit depth NotEnds = (Unit {0}, λ p. [])
kind_of limit depth AfterName = behind (λ ts. (n : Ident) → Atom_after (t_name n ∷ []) ts)
kind_of limit depth AfterColumn = behind (λ ts. (c : Col) → Atom_after (words_of_col c) ts)
kind_of limit depth AfterNot = behind (λ ts. (c : Col) (k : Key) → Atom_after (words_of_col c) (t_key Not k ∷ ts))
kind_of limit depth AfterIs = behind (λ ts. (c : Col) (k : Key) → Atom_after (words_of_col c) (t_key Is k ∷ ts))
kind_of limit depth AfterLiteral = behind (λ ts. (l : OperandTree) → Atom_after (words_of_operand l) ts)
kind_of limit depth AfterTruth = behind (λ ts. (c : Constant) (k : Key) → Atom_after (words_of_lit (constant c k)) ts)
kind_of limit depth Side = (OperandTree, words_of_operand)
kind_of limit depth AfterSide = behind (λ ts. (n : Ident) → (o : OperandTree) × (words_of_operand o ≡ t_name n ∷ ts))
kind_of limit depth AfterQualifier = behind (λ ts. (n : Ident) → (c : Col) × (words_of_col c ≡ t_name n ∷ ts))
kind_of limit depth Result = (Output, words_of_output)
kind_of limit depth MoreResults = (List (Mark × Output), words_of_outputs)
kind_of limit depth AfterResult = behind (λ ts. (n : Ident) → (o : Output) × (words_of_output o ≡ t_name n ∷ ts))
kind_of limit depth StarOrLabel = behind (λ ts. (n : Ident) (d : Mark) → (o : Output) × (words_of_output o ≡ t_name n ∷ t_mark Dot d ∷ ts))
kind_of limit depth MaybeAlias = (Alias, words_of_alias)
kind_of limit depth MoreJoins = within limit depth (List Join) levels_of_joins words_of_joins
kind_of limit depth MoreGroups = within limit depth (List (Mark × Group)) levels_of_groups words_of_groups
kind_of limit depth MaybeWhere = within limit depth Where levels_of_where words_of_where
kind_of limit depth Figures = behind (λ ts. Statement_after ts)
kind_of limit depth MaybeCommon = (CommonPart, words_of_common)
kind_of limit depth MoreShares = closed (List (Mark × Share)) words_of_shares
kind_of limit depth MaybeHistogram = (Histogram, words_of_histogram)
kind_of limit depth MoreBounds = closed (List (Mark × Lit)) words_of_bounds
kind_of limit depth Literal = (Lit, words_of_lit)
kind_of limit depth MaybeOrder = (OrderBy, words_of_order)
kind_of limit depth MoreOrderings = (List (Mark × Ordering), words_of_orderings)
kind_of limit depth MaybeLimit = (LimitTree, words_of_limit)
kind_of limit depth MaybeOffset = (Offset, words_of_offset)
kind_of limit depth MaybeDirection = (Direction, words_of_direction)
kind_of limit depth MaybeNulls = (NullsEnd, words_of_nulls_end)
kind_of limit depth FirstOrLast = behind (λ ts. (k : Token) → (n : NullsEnd) × (words_of_nulls_end n ≡ t_name (free NullsWord k) ∷ ts))
kind_of limit depth AfterCreate = behind (λ ts. (k : Key) → (x : Statement) × (words_of x ≡ t_key Create k ∷ ts) × (levels_of x + depth ≤ limit))
kind_of limit depth MaybeUsing = (Using, words_of_using)
kind_of limit depth MaybeClass = (ClassTree, words_of_class)
kind_of limit depth MoreKeys = closed (List (Mark × KeyTree)) words_of_keys
kind_of limit depth MaybeInclude = (Include, words_of_include)
kind_of limit depth MoreNames = closed (List (Mark × Ident)) words_of_names
kind_of limit depth AfterExplain = behind (λ ts. (k : Token) → Statement_of limit depth (t_name (free Explain k) ∷ ts))
kind_of limit depth Candidate = within limit depth Cand levels_of_cand words_of_cand
kind_of limit depth MoreCands = ((x : List (Mark × Cand)) × (levels_of_cands x + depth ≤ limit) × Mark, λ p. words_of_cands p.0 ++ t_mark Close p.2 ∷ [])
kind_of limit depth AdvisedSelect = within limit depth Advised levels_of_advised words_of_advised
kind_of limit depth MoreAdvised = within limit depth (List Advised) levels_of_more_advised words_of_more_advised
kind_of limit depth FirstItem = behind (λ ts. (x : MaybeExplain) (k : Key) → Statement_of limit depth (begun x k [] ts))
kind_of limit depth AfterDistinct = behind (λ ts. (x : MaybeExplain) (k : Key) (d : Token) → Statement_of limit depth (begun x k [] (t_name (free Distinct d) ∷ ts)))
kind_of limit depth PlainItem = behind (λ ts. (x : MaybeExplain) (k : Key) (led : List (Output × Mark)) → Statement_of limit depth (begun x k led ts))
kind_of limit depth AfterPlain = behind (λ ts. (x : MaybeExplain) (k : Key) (led : List (Output × Mark)) (n : Ident) → Statement_of limit depth (begun x k led (t_name n ∷ ts)))
kind_of limit depth PlainNext = behind (λ ts. (x : MaybeExplain) (k : Key) (led : List (Output × Mark)) (o : Output) → Statement_of limit depth (begun x k led (words_of_output o ++ ts)))
kind_of limit depth PlainTail = behind (λ ts. (x : MaybeExplain) (q : Select) → levels_of_select q + depth ≤ limit → Statement_of limit depth (words_of_maybe_explain x ++ (words_of_select q ++ ts)))
kind_of limit depth GroupedItem = (GroupedItemTree, words_of_grouped_item)
kind_of limit depth AfterGroupedName = behind (λ ts. (n : Ident) → (i : GroupedItemTree) × (words_of_grouped_item i ≡ t_name n ∷ ts))
kind_of limit depth MoreGroupedItems = (List (Mark × GroupedItemTree) × Key, λ p. words_of_grouped_items p.0 ++ t_key From p.1 ∷ [])
kind_of limit depth Argument = (ArgumentTree, words_of_argument)
kind_of limit depth MaybeGroup = (GroupBy, words_of_group_by)
kind_of limit depth MoreGroupColumns = (List (Mark × Col), words_of_group_columns)

abbrev pub Part : ℕ → ℕ → Item → Type 0
Part limit depth i = (kind_of limit depth i).0

-- its words
abbrev pub words_of_part : (limit depth : ℕ) (i : Item) → Part limit depth i → List Terminal
words_of_part limit depth i p = (kind_of limit depth i).1 p

-- what a stack stands for
abbrev pub Parts : ℕ → List Item → Type 0
Parts limit [] = Unit {0}
Parts limit (i ∷ s) = Part limit (depth_of s) i × Parts limit s

-- its words
abbrev pub words_of_parts : (limit : ℕ) (s : List Item) → Parts limit s → List Terminal
words_of_parts limit [] _ = []
words_of_parts limit (i ∷ s) p = words_of_part limit (depth_of s) i p.0 ++ words_of_parts limit s p.1

-- parts for what stands for an item after a terminal give parts for the item that begin with the terminal
abbrev pub IsRule : (limit : ℕ) → List Item → Item → Terminal → Option (List Item) → Type 0
IsRule limit s i t None = Unit {0}
IsRule limit s i t (Some is) = (f : Parts limit (is ++ s)) → (g : Parts limit (i ∷ s)) × (words_of_parts limit (i ∷ s) g ≡ t ∷ words_of_parts limit (is ++ s) f)
