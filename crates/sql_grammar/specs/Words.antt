-- The words of each syntax tree, in the order in which they are written (PostgreSQL manual, chapters SQL Syntax and SQL
-- Commands), and how deep its expressions are nested (own).
use Rattle.std.specs.Prelude.{ℕ, ◌+◌, max, List, [], ◌∷◌, ◌++◌}
use Rattle.sql_lex.specs.declared.tokens.Token.{Token}
use Rattle.sql_grammar.specs.Terminals.{Terminal, Ident, Said, t_key, t_mark, t_name, t_number, t_quoted, t_operator, t_semicolon, t_end, free}
use Rattle.sql_grammar.specs.declared.class.Free.TheVariants.{Advise as AdviseWord, Analyze, Between, By, Character, Check as CheckWord, Common as CommonWord, Copy, Csv, Distinct, Explain, First, Format, Histogram as HistogramWord, In, Include as IncludeWord, Index as IndexWord, Last, Nulls as NullsWord, Pages, Plan, Rows, Statistics, Stdin, Time, Timestamp, Use, Varying, Without, Zone}
use Rattle.sql_grammar.specs.declared.class.Word.{Word}
use Rattle.sql_grammar.specs.declared.class.Word.TheVariants.{And, As, Asc, Create, Cross, Desc, False, From, Group as GroupKey, Inner as InnerKey, Is, Join as JoinKey, Limit as LimitKey, Not, Null, Offset as OffsetKey, On, Or, Order, Select, Table, True, Using as UsingKey, Where as WhereKey, With}
use Rattle.sql_grammar.specs.declared.class.Symbol.TheVariants.{Open, Close, Comma, Dot, Minus, Star}
use Rattle.sql_grammar.specs.Syntax.{Col, bare, qualified, Constant, yes, no, unknown, Lit, number, negative, quoted, constant, OperandTree, column, literal, typed, Expr, either_of, Ors, no_or, or_conj, Conj, both_of, Ands, no_and, and_neg, Negated, no_not, not_before, Neg, negated, plain, Atom, parens, compare, is_null, is_not_null, in_list, between, column_alone, constant_alone, Nulls, unwritten, not_null, nullable, Modifiers, no_modifiers, modifiers, TypeTree, named_type, character_varying, timestamp_with_zone, timestamp_without_zone, ColDef, coldef, Output, every, every_of, one, Alias, no_alias, bare_alias, as_alias, Relation, relation, Inner, no_inner, inner, Join, join_on, cross_join, Group, group_of, Select as SelectTree, select_from, Where, no_where, where_expr, Share, share, CommonPart, no_common, common, Histogram, no_histogram, histogram, Ending, semicolon, text_end, Direction, no_direction, ascending, descending, NullsEnd, no_nulls_end, nulls_first, nulls_last, Ordering, ordering, OrderBy, no_order, order_by, LimitTree, no_limit, most_rows, Offset, no_offset, skipped_rows, WindowTree, window, WindowedSelect, windowed_select, Explaining, no_explain, explain, explain_table, OrderedSelect, ordered_select, MaybeExplain, unexplained, explained, Argument, all_rows, of_col, GroupedItem, plain_item, call, GroupBy, no_group_by, group_by, GroupedSelect, distinct_select, grouped_select, ClassTree, no_class, op_class, KeyTree, index_key, Using, no_using, using_method, Include, no_include, include_columns, CreateIndex, index_on, Cand, cand_on, Advised, advised, Advise, advise_of, Statement, empty, create_table, create_index, query, copy, sizes, column_statistics, analyze, advise, check, use_plan, grouped}

-- a column, with its table's name and a dot before it where that is written
abbrev pub words_of_col : Col → List Terminal
words_of_col (bare n) = t_name n ∷ []
words_of_col (qualified q d n) = t_name q ∷ t_mark Dot d ∷ t_name n ∷ []

-- TRUE, FALSE or NULL
abbrev pub constant_word : Constant → Word
constant_word yes = True
constant_word no = False
constant_word unknown = Null

-- a literal: a number, one with a minus, a quoted text or a constant
abbrev pub words_of_lit : Lit → List Terminal
words_of_lit (number n) = t_number n ∷ []
words_of_lit (negative m n) = t_mark Minus m ∷ t_number n ∷ []
words_of_lit (quoted t) = t_quoted t ∷ []
words_of_lit (constant c k) = t_key (constant_word c) k ∷ []

-- further literals, each after a comma
abbrev pub words_of_bounds : List (Token × Lit) → List Terminal
words_of_bounds [] = []
words_of_bounds ((m, l) ∷ ls) = t_mark Comma m ∷ (words_of_lit l ++ words_of_bounds ls)

-- a column, a literal, or a type's name and a quoted text
abbrev pub words_of_operand : OperandTree → List Terminal
words_of_operand (column c) = words_of_col c
words_of_operand (literal l) = words_of_lit l
words_of_operand (typed n t) = t_name n ∷ t_quoted t ∷ []

-- NOT or nothing
abbrev pub words_of_negated : Negated → List Terminal
words_of_negated no_not = []
words_of_negated (not_before k) = t_key Not k ∷ []

abbrev mutual
  -- the parts of an OR
  pub words_of_expr : Expr → List Terminal
  words_of_expr (either_of c cs) = words_of_conj c ++ words_of_ors cs

  -- further parts, each after OR
  pub words_of_ors : Ors → List Terminal
  words_of_ors no_or = []
  words_of_ors (or_conj k c cs) = t_key Or k ∷ (words_of_conj c ++ words_of_ors cs)

  -- the parts of an AND
  pub words_of_conj : Conj → List Terminal
  words_of_conj (both_of n ns) = words_of_neg n ++ words_of_ands ns

  -- further parts, each after AND
  pub words_of_ands : Ands → List Terminal
  words_of_ands no_and = []
  words_of_ands (and_neg k n ns) = t_key And k ∷ (words_of_neg n ++ words_of_ands ns)

  -- NOT before a part, or an atom
  pub words_of_neg : Neg → List Terminal
  words_of_neg (negated k n) = t_key Not k ∷ words_of_neg n
  words_of_neg (plain a) = words_of_atom a

  -- an expression in parentheses, a comparison, a null test, IN with a list, BETWEEN, a column or a constant
  pub words_of_atom : Atom → List Terminal
  words_of_atom (parens o e c) = t_mark Open o ∷ (words_of_expr e ++ t_mark Close c ∷ [])
  words_of_atom (compare l op r) = words_of_operand l ++ t_operator op ∷ words_of_operand r
  words_of_atom (is_null c i k) = words_of_col c ++ t_key Is i ∷ t_key Null k ∷ []
  words_of_atom (is_not_null c i n k) = words_of_col c ++ t_key Is i ∷ t_key Not n ∷ t_key Null k ∷ []
  words_of_atom (in_list _ c n w o l ls m) = words_of_col c ++ (words_of_negated n ++ t_name (free In w) ∷ t_mark Open o ∷ (words_of_lit l ++ (words_of_bounds ls ++ t_mark Close m ∷ [])))
  words_of_atom (between _ l n w a k b) = words_of_operand l ++ (words_of_negated n ++ t_name (free Between w) ∷ (words_of_operand a ++ t_key And k ∷ words_of_operand b))
  words_of_atom (column_alone c) = words_of_col c
  words_of_atom (constant_alone c k) = t_key (constant_word c) k ∷ []

-- NOT NULL, NULL or nothing
abbrev pub words_of_nulls : Nulls → List Terminal
words_of_nulls unwritten = []
words_of_nulls (not_null n k) = t_key Not n ∷ t_key Null k ∷ []
words_of_nulls (nullable k) = t_key Null k ∷ []

-- further numbers, each after a comma
abbrev pub words_of_numbers : List (Token × Said) → List Terminal
words_of_numbers [] = []
words_of_numbers ((m, n) ∷ ns) = t_mark Comma m ∷ t_number n ∷ words_of_numbers ns

-- numbers in parentheses, or nothing
abbrev pub words_of_modifiers : Modifiers → List Terminal
words_of_modifiers no_modifiers = []
words_of_modifiers (modifiers o n ns m) = t_mark Open o ∷ t_number n ∷ (words_of_numbers ns ++ t_mark Close m ∷ [])

-- a type's name, or its words, with its modifiers
abbrev pub words_of_type : TypeTree → List Terminal
words_of_type (named_type n m) = t_name n ∷ words_of_modifiers m
words_of_type (character_varying c v m) = t_name (free Character c) ∷ t_name (free Varying v) ∷ words_of_modifiers m
words_of_type (timestamp_with_zone s m w t z) = t_name (free Timestamp s) ∷ (words_of_modifiers m ++ t_key With w ∷ t_name (free Time t) ∷ t_name (free Zone z) ∷ [])
words_of_type (timestamp_without_zone s m w t z) = t_name (free Timestamp s) ∷ (words_of_modifiers m ++ t_name (free Without w) ∷ t_name (free Time t) ∷ t_name (free Zone z) ∷ [])

-- a column's name, its type and whether it may be NULL
abbrev pub words_of_coldef : ColDef → List Terminal
words_of_coldef (coldef n t nulls) = t_name n ∷ (words_of_type t ++ words_of_nulls nulls)

-- further columns, each after a comma
abbrev pub words_of_columns : List (Token × ColDef) → List Terminal
words_of_columns [] = []
words_of_columns ((m, c) ∷ cs) = t_mark Comma m ∷ (words_of_coldef c ++ words_of_columns cs)

-- what SELECT asks for: everything, everything of a table, or a column
abbrev pub words_of_output : Output → List Terminal
words_of_output (every s) = t_mark Star s ∷ []
words_of_output (every_of n d s) = t_name n ∷ t_mark Dot d ∷ t_mark Star s ∷ []
words_of_output (one c) = words_of_col c

-- further ones, each after a comma
abbrev pub words_of_outputs : List (Token × Output) → List Terminal
words_of_outputs [] = []
words_of_outputs ((m, o) ∷ os) = t_mark Comma m ∷ (words_of_output o ++ words_of_outputs os)

-- an alias, with or without AS, or nothing
abbrev pub words_of_alias : Alias → List Terminal
words_of_alias no_alias = []
words_of_alias (bare_alias n _) = t_name n ∷ []
words_of_alias (as_alias k n) = t_key As k ∷ t_name n ∷ []

-- a relation: a table's name with its alias
abbrev pub words_of_relation : Relation → List Terminal
words_of_relation (relation n a) = t_name n ∷ words_of_alias a

-- INNER or nothing
abbrev pub words_of_inner : Inner → List Terminal
words_of_inner no_inner = []
words_of_inner (inner k) = t_key InnerKey k ∷ []

-- [INNER] JOIN and a relation with its condition, or CROSS JOIN and a relation
abbrev pub words_of_join : Join → List Terminal
words_of_join (join_on i j r o e) = words_of_inner i ++ t_key JoinKey j ∷ (words_of_relation r ++ t_key On o ∷ words_of_expr e)
words_of_join (cross_join c j r) = t_key Cross c ∷ t_key JoinKey j ∷ words_of_relation r

-- joins from the left
abbrev pub words_of_joins : List Join → List Terminal
words_of_joins [] = []
words_of_joins (j ∷ js) = words_of_join j ++ words_of_joins js

-- a relation and what is joined to it
abbrev pub words_of_group : Group → List Terminal
words_of_group (group_of r js) = words_of_relation r ++ words_of_joins js

-- further ones, each after a comma
abbrev pub words_of_groups : List (Token × Group) → List Terminal
words_of_groups [] = []
words_of_groups ((m, g) ∷ gs) = t_mark Comma m ∷ (words_of_group g ++ words_of_groups gs)

-- WHERE before an expression, or nothing
abbrev pub words_of_where : Where → List Terminal
words_of_where no_where = []
words_of_where (where_expr k e) = t_key WhereKey k ∷ words_of_expr e

-- SELECT item { "," item } FROM group { "," group } [WHERE expr]
abbrev pub words_of_select : SelectTree → List Terminal
words_of_select (select_from k o os f g gs w) = t_key Select k ∷ (words_of_output o ++ (words_of_outputs os ++ t_key From f ∷ (words_of_group g ++ (words_of_groups gs ++ words_of_where w))))

-- the word that ends a statement
abbrev pub words_of_ending : Ending → List Terminal
words_of_ending (semicolon t) = t_semicolon t ∷ []
words_of_ending (text_end t) = t_end t ∷ []

-- ASC, DESC or nothing
abbrev pub words_of_direction : Direction → List Terminal
words_of_direction no_direction = []
words_of_direction (ascending k) = t_key Asc k ∷ []
words_of_direction (descending k) = t_key Desc k ∷ []

-- NULLS FIRST, NULLS LAST or nothing
abbrev pub words_of_nulls_end : NullsEnd → List Terminal
words_of_nulls_end no_nulls_end = []
words_of_nulls_end (nulls_first n f) = t_name (free NullsWord n) ∷ t_name (free First f) ∷ []
words_of_nulls_end (nulls_last n l) = t_name (free NullsWord n) ∷ t_name (free Last l) ∷ []

-- a column with its direction and the end at which its NULLs stand
abbrev pub words_of_ordering : Ordering → List Terminal
words_of_ordering (ordering c d n) = words_of_col c ++ (words_of_direction d ++ words_of_nulls_end n)

-- further ones, each after a comma
abbrev pub words_of_orderings : List (Token × Ordering) → List Terminal
words_of_orderings [] = []
words_of_orderings ((m, o) ∷ os) = t_mark Comma m ∷ (words_of_ordering o ++ words_of_orderings os)

-- ORDER BY and what follows it, or nothing
abbrev pub words_of_order : OrderBy → List Terminal
words_of_order no_order = []
words_of_order (order_by k b o os) = t_key Order k ∷ t_name (free By b) ∷ (words_of_ordering o ++ words_of_orderings os)

-- LIMIT and a number, or nothing
abbrev pub words_of_limit : LimitTree → List Terminal
words_of_limit no_limit = []
words_of_limit (most_rows _ k n) = t_key LimitKey k ∷ t_number n ∷ []

-- OFFSET and a number, or nothing
abbrev pub words_of_offset : Offset → List Terminal
words_of_offset no_offset = []
words_of_offset (skipped_rows _ k n) = t_key OffsetKey k ∷ t_number n ∷ []

-- LIMIT, then OFFSET
abbrev pub words_of_window : WindowTree → List Terminal
words_of_window (window l o) = words_of_limit l ++ words_of_offset o

-- a SELECT with its order and its window
abbrev pub words_of_windowed : WindowedSelect → List Terminal
words_of_windowed (windowed_select q y w) = words_of_select q ++ (words_of_order y ++ words_of_window w)

-- EXPLAIN, EXPLAIN (TABLE) or nothing
abbrev pub words_of_explaining : Explaining → List Terminal
words_of_explaining no_explain = []
words_of_explaining (explain k) = t_name (free Explain k) ∷ []
words_of_explaining (explain_table _ k o t m) = t_name (free Explain k) ∷ t_mark Open o ∷ t_key Table t ∷ t_mark Close m ∷ []

-- a SELECT with its order, its window and its end
abbrev pub words_of_ordered : OrderedSelect → List Terminal
words_of_ordered (ordered_select x q o w e) = words_of_explaining x ++ (words_of_select q ++ (words_of_order o ++ (words_of_window w ++ words_of_ending e)))

-- EXPLAIN or nothing
abbrev pub words_of_maybe_explain : MaybeExplain → List Terminal
words_of_maybe_explain unexplained = []
words_of_maybe_explain (explained k) = t_name (free Explain k) ∷ []

-- `*` or a column
abbrev pub words_of_argument : Argument → List Terminal
words_of_argument (all_rows s) = t_mark Star s ∷ []
words_of_argument (of_col c) = words_of_col c

-- a column, a star or a call
abbrev pub words_of_grouped_item : GroupedItem → List Terminal
words_of_grouped_item (plain_item o) = words_of_output o
words_of_grouped_item (call n o a m) = t_name n ∷ t_mark Open o ∷ (words_of_argument a ++ t_mark Close m ∷ [])

-- further ones, each after a comma
abbrev pub words_of_grouped_items : List (Token × GroupedItem) → List Terminal
words_of_grouped_items [] = []
words_of_grouped_items ((m, i) ∷ is) = t_mark Comma m ∷ (words_of_grouped_item i ++ words_of_grouped_items is)

-- further columns, each after a comma
abbrev pub words_of_group_columns : List (Token × Col) → List Terminal
words_of_group_columns [] = []
words_of_group_columns ((m, c) ∷ cs) = t_mark Comma m ∷ (words_of_col c ++ words_of_group_columns cs)

-- GROUP BY and its columns, or nothing
abbrev pub words_of_group_by : GroupBy → List Terminal
words_of_group_by no_group_by = []
words_of_group_by (group_by k b c cs) = t_key GroupKey k ∷ t_name (free By b) ∷ (words_of_col c ++ words_of_group_columns cs)

-- a SELECT with calls or GROUP BY, behind its first word, with its order and its end
abbrev pub words_of_grouped : GroupedSelect → List Terminal
words_of_grouped (distinct_select _ d o os f g gs w y e) =
    t_name (free Distinct d) ∷ (words_of_output o ++ (words_of_outputs os ++ t_key From f ∷
    (words_of_group g ++ (words_of_groups gs ++ (words_of_where w ++ (words_of_order y ++ words_of_ending e))))))
words_of_grouped (grouped_select i is f g gs w b _ y e) =
    words_of_grouped_item i ++ (words_of_grouped_items is ++ t_key From f ∷
    (words_of_group g ++ (words_of_groups gs ++ (words_of_where w ++ (words_of_group_by b ++ (words_of_order y ++ words_of_ending e))))))

-- an operator class, or nothing
abbrev pub words_of_class : ClassTree → List Terminal
words_of_class no_class = []
words_of_class (op_class n _) = t_name n ∷ []

-- a key's column with its operator class, its direction and the end at which its NULLs stand
abbrev pub words_of_key : KeyTree → List Terminal
words_of_key (index_key n c d z) = t_name n ∷ (words_of_class c ++ (words_of_direction d ++ words_of_nulls_end z))

-- further keys, each after a comma
abbrev pub words_of_keys : List (Token × KeyTree) → List Terminal
words_of_keys [] = []
words_of_keys ((m, k) ∷ ks) = t_mark Comma m ∷ (words_of_key k ++ words_of_keys ks)

-- USING and an access method, or nothing
abbrev pub words_of_using : Using → List Terminal
words_of_using no_using = []
words_of_using (using_method k n) = t_key UsingKey k ∷ t_name n ∷ []

-- further columns, each after a comma
abbrev pub words_of_names : List (Token × Ident) → List Terminal
words_of_names [] = []
words_of_names ((m, n) ∷ ns) = t_mark Comma m ∷ t_name n ∷ words_of_names ns

-- INCLUDE and its columns, or nothing
abbrev pub words_of_include : Include → List Terminal
words_of_include no_include = []
words_of_include (include_columns k o n ns m) = t_name (free IncludeWord k) ∷ t_mark Open o ∷ t_name n ∷ (words_of_names ns ++ t_mark Close m ∷ [])

-- CREATE INDEX with its end
abbrev pub words_of_index : CreateIndex → List Terminal
words_of_index (index_on k i n o t u p x xs m c w e) =
    t_key Create k ∷ t_name (free IndexWord i) ∷ t_name n ∷ t_key On o ∷ t_name t ∷
    (words_of_using u ++ t_mark Open p ∷ (words_of_key x ++ (words_of_keys xs ++ t_mark Close m ∷ (words_of_include c ++ (words_of_where w ++ words_of_ending e)))))

-- CREATE INDEX without its first two words and its end
abbrev pub words_of_cand : Cand → List Terminal
words_of_cand (cand_on n o t u p x xs m c w) =
    t_name n ∷ t_key On o ∷ t_name t ∷
    (words_of_using u ++ t_mark Open p ∷ (words_of_key x ++ (words_of_keys xs ++ t_mark Close m ∷ (words_of_include c ++ words_of_where w))))

-- further candidates, each after a comma
abbrev pub words_of_cands : List (Token × Cand) → List Terminal
words_of_cands [] = []
words_of_cands ((m, c) ∷ cs) = t_mark Comma m ∷ (words_of_cand c ++ words_of_cands cs)

-- a SELECT in parentheses
abbrev pub words_of_advised : Advised → List Terminal
words_of_advised (advised o x m) = t_mark Open o ∷ (words_of_windowed x ++ t_mark Close m ∷ [])

-- further ones
abbrev pub words_of_more_advised : List Advised → List Terminal
words_of_more_advised [] = []
words_of_more_advised (x ∷ xs) = words_of_advised x ++ words_of_more_advised xs

-- ADVISE with its end
abbrev pub words_of_advise : Advise → List Terminal
words_of_advise (advise_of _ k n o c cs m x xs e) =
    t_name (free AdviseWord k) ∷ t_number n ∷ t_mark Open o ∷
    (words_of_cand c ++ (words_of_cands cs ++ t_mark Close m ∷ (words_of_advised x ++ (words_of_more_advised xs ++ words_of_ending e))))

-- a common value and its share
abbrev pub words_of_share : Share → List Terminal
words_of_share (share l n) = words_of_lit l ++ t_number n ∷ []

-- further ones, each after a comma
abbrev pub words_of_shares : List (Token × Share) → List Terminal
words_of_shares [] = []
words_of_shares ((m, s) ∷ ss) = t_mark Comma m ∷ (words_of_share s ++ words_of_shares ss)

-- the common values, or nothing
abbrev pub words_of_common : CommonPart → List Terminal
words_of_common no_common = []
words_of_common (common k o s ss m) = t_name (free CommonWord k) ∷ t_mark Open o ∷ (words_of_share s ++ (words_of_shares ss ++ t_mark Close m ∷ []))

-- the bounds of a histogram, or nothing
abbrev pub words_of_histogram : Histogram → List Terminal
words_of_histogram no_histogram = []
words_of_histogram (histogram k o l ls m) = t_name (free HistogramWord k) ∷ t_mark Open o ∷ (words_of_lit l ++ (words_of_bounds ls ++ t_mark Close m ∷ []))

-- a statement with its end
abbrev pub words_of : Statement → List Terminal
words_of (empty e) = words_of_ending e
words_of (create_table k t n o c cs m e) =
    t_key Create k ∷ t_key Table t ∷ t_name n ∷ t_mark Open o ∷ (words_of_coldef c ++ (words_of_columns cs ++ t_mark Close m ∷ words_of_ending e))
words_of (create_index x) = words_of_index x
words_of (query x) = words_of_ordered x
words_of (copy k n text) =
    t_name (free Copy k.copy) ∷ t_name n ∷ t_key From k.from_at ∷ t_name (free Stdin k.stdin) ∷ t_key With k.with_at ∷ t_mark Open k.open_at ∷ t_name (free Format k.format) ∷ t_name (free Csv k.csv) ∷
    t_mark Comma k.comma ∷ t_key Null k.null ∷ t_quoted text ∷ t_mark Close k.close_at ∷ t_semicolon k.stop ∷ []
words_of (sizes k n r p e) =
    t_name (free Statistics k.statistics) ∷ t_name n ∷ t_name (free Rows k.rows) ∷ t_number r ∷ t_name (free Pages k.pages) ∷ t_number p ∷ words_of_ending e
words_of (column_statistics k n c d z m h e) =
    t_name (free Statistics k.statistics) ∷ t_name n ∷ t_mark Dot k.dot ∷ t_name c ∷ t_name (free Distinct k.distinct) ∷ t_number d ∷ t_name (free NullsWord k.nulls) ∷ t_number z ∷
    (words_of_common m ++ (words_of_histogram h ++ words_of_ending e))
words_of (analyze _ k n e) = t_name (free Analyze k) ∷ t_name n ∷ words_of_ending e
words_of (advise x) = words_of_advise x
words_of (check _ k x s) = t_name (free CheckWord k) ∷ (words_of_windowed x ++ t_semicolon s ∷ [])
words_of (use_plan _ u p q y s) = t_name (free Use u) ∷ t_name (free Plan p) ∷ (words_of_select q ++ (words_of_order y ++ t_semicolon s ∷ []))
words_of (grouped _ x k q) = words_of_maybe_explain x ++ t_key Select k ∷ words_of_grouped q

-- The levels of an expression: a `(` and a NOT open one each.

abbrev mutual
  -- the most of its parts
  pub levels_of_expr : Expr → ℕ
  levels_of_expr (either_of c cs) = max (levels_of_conj c) (levels_of_ors cs)

  -- the most of further parts
  pub levels_of_ors : Ors → ℕ
  levels_of_ors no_or = 0
  levels_of_ors (or_conj _ c cs) = max (levels_of_conj c) (levels_of_ors cs)

  -- the most of its parts
  pub levels_of_conj : Conj → ℕ
  levels_of_conj (both_of n ns) = max (levels_of_neg n) (levels_of_ands ns)

  -- the most of further parts
  pub levels_of_ands : Ands → ℕ
  levels_of_ands no_and = 0
  levels_of_ands (and_neg _ n ns) = max (levels_of_neg n) (levels_of_ands ns)

  -- a NOT opens a level
  pub levels_of_neg : Neg → ℕ
  levels_of_neg (negated _ n) = levels_of_neg n + 1
  levels_of_neg (plain a) = levels_of_atom a

  -- a `(` opens a level; the NOT of IS NOT NULL opens none
  pub levels_of_atom : Atom → ℕ
  levels_of_atom (parens _ e _) = levels_of_expr e + 1
  levels_of_atom (compare _ _ _) = 0
  levels_of_atom (is_null _ _ _) = 0
  levels_of_atom (is_not_null _ _ _ _) = 0
  levels_of_atom (in_list _ _ _ _ _ _ _ _) = 0
  levels_of_atom (between _ _ _ _ _ _ _) = 0
  levels_of_atom (column_alone _) = 0
  levels_of_atom (constant_alone _ _) = 0

-- the levels of WHERE
abbrev pub levels_of_where : Where → ℕ
levels_of_where no_where = 0
levels_of_where (where_expr _ e) = levels_of_expr e

-- the levels of a join's condition, which are counted from 0 for each join
abbrev pub levels_of_join : Join → ℕ
levels_of_join (join_on _ _ _ _ e) = levels_of_expr e
levels_of_join (cross_join _ _ _) = 0

-- the most levels of some joins
abbrev pub levels_of_joins : List Join → ℕ
levels_of_joins [] = 0
levels_of_joins (j ∷ js) = max (levels_of_join j) (levels_of_joins js)

-- the levels of a relation and what is joined to it: the most of the joins
abbrev pub levels_of_group : Group → ℕ
levels_of_group (group_of _ js) = levels_of_joins js

-- the most levels of further relations of FROM, each with what is joined to it
abbrev pub levels_of_groups : List (Token × Group) → ℕ
levels_of_groups [] = 0
levels_of_groups ((_, g) ∷ gs) = max (levels_of_group g) (levels_of_groups gs)

-- the levels of a SELECT: the most of its conditions
abbrev pub levels_of_select : SelectTree → ℕ
levels_of_select (select_from _ _ _ _ g gs w) = max (levels_of_group g) (max (levels_of_groups gs) (levels_of_where w))

-- the levels of a SELECT with its order and its window
abbrev pub levels_of_windowed : WindowedSelect → ℕ
levels_of_windowed (windowed_select q _ _) = levels_of_select q

-- the levels of a SELECT with calls or GROUP BY
abbrev pub levels_of_grouped : GroupedSelect → ℕ
levels_of_grouped (distinct_select _ _ _ _ _ g gs w _ _) = max (levels_of_group g) (max (levels_of_groups gs) (levels_of_where w))
levels_of_grouped (grouped_select _ _ _ g gs w _ _ _ _) = max (levels_of_group g) (max (levels_of_groups gs) (levels_of_where w))

-- the levels of a SELECT with its order
abbrev pub levels_of_ordered : OrderedSelect → ℕ
levels_of_ordered (ordered_select _ q _ _ _) = levels_of_select q

-- the levels of CREATE INDEX: those of its WHERE
abbrev pub levels_of_index : CreateIndex → ℕ
levels_of_index (index_on _ _ _ _ _ _ _ _ _ _ _ w _) = levels_of_where w

-- the levels of CREATE INDEX without its first two words and its end
abbrev pub levels_of_cand : Cand → ℕ
levels_of_cand (cand_on _ _ _ _ _ _ _ _ _ w) = levels_of_where w

-- the most levels of further candidates
abbrev pub levels_of_cands : List (Token × Cand) → ℕ
levels_of_cands [] = 0
levels_of_cands ((_, c) ∷ cs) = max (levels_of_cand c) (levels_of_cands cs)

-- the levels of a SELECT in parentheses, which open none themselves
abbrev pub levels_of_advised : Advised → ℕ
levels_of_advised (advised _ x _) = levels_of_windowed x

-- the most levels of further SELECTs in parentheses
abbrev pub levels_of_more_advised : List Advised → ℕ
levels_of_more_advised [] = 0
levels_of_more_advised (x ∷ xs) = max (levels_of_advised x) (levels_of_more_advised xs)

-- the levels of ADVISE: the most of its candidates and of its SELECTs
abbrev pub levels_of_advise : Advise → ℕ
levels_of_advise (advise_of _ _ _ _ c cs _ x xs _) = max (levels_of_cand c) (max (levels_of_cands cs) (max (levels_of_advised x) (levels_of_more_advised xs)))

-- the levels of a statement
abbrev pub levels_of : Statement → ℕ
levels_of (empty _) = 0
levels_of (create_table _ _ _ _ _ _ _ _) = 0
levels_of (create_index x) = levels_of_index x
levels_of (query x) = levels_of_ordered x
levels_of (copy _ _ _) = 0
levels_of (sizes _ _ _ _ _) = 0
levels_of (column_statistics _ _ _ _ _ _ _ _) = 0
levels_of (analyze _ _ _ _) = 0
levels_of (advise x) = levels_of_advise x
levels_of (check _ _ x _) = levels_of_windowed x
levels_of (use_plan _ _ _ q _ _) = levels_of_select q
levels_of (grouped _ _ _ q) = levels_of_grouped q
