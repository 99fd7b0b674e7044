-- A SELECT of either form that is read. Own.
use Rattle.std.specs.Prelude.{◌≡◌, ◌⊎◌, ℕ, Bool, true, List, ◌∷◌, ◌++◌, drop, map, All, Result, Ok, Err}
use Rattle.pg_base.specs.declared.faults.Fault.{Fault}
use Rattle.pg_base.specs.declared.faults.Refusal.{Refusal}
use Rattle.pg_base.specs.declared.faults.Refusal.TheVariants as refusal
use Rattle.sql_lex.specs.declared.tokens.Token.{Token}
use Rattle.sql_grammar.specs.declared.offered.TheConstants.{READS_GROUPS}
use Rattle.sql_grammar.specs.Faults.{IsFirstFault, IsStatement}
use Rattle.sql_grammar.specs.work.Faults.{IsWhole}
use Rattle.sql_grammar.specs.Spelled.{IsSpelled}
use Rattle.sql_grammar.specs.FromParts.{groups_after}
use Rattle.sql_grammar.specs.Syntax.{Group, GroupBy, GroupedItem, GroupedSelect, IsOffered, Mark, MaybeExplain, OrderBy, OrderedSelect, Where, grouped, query, unexplained}
use Rattle.sql_grammar.specs.Terminals.{Terminal}
use Rattle.sql_grammar.specs.Words.{words_of_group, words_of_group_by, words_of_groups, words_of_order, words_of_where}
use Rattle.catalog.specs.Contents.{Contents}
use Rattle.eq_classes.specs.Holding.{IsClassTable}
use Rattle.expr_reader.specs.Conditions.{next}
use Rattle.expr_reader.specs.work.Parted.{HasParts}
use Rattle.sql_query.specs.Grouped.{GroupedQuery}
use Rattle.sql_query.specs.WellBound.{IsWellBound, given_of}
use Rattle.query_reader.specs.Binding.{Bound, bound, query_with}
use Rattle.query_reader.specs.work.Conveys.{Conveys}
use Rattle.query_reader.specs.work.Ends.{ends_window}
use Rattle.query_reader.specs.From.{Joined, nothing_joined, with_groups}
use Rattle.query_reader.specs.work.Select.{AreGrouped, AreSelect}
use Rattle.group_query.specs.Grouping.{IsWellGrouped, given_groups}
use Rattle.group_reader.specs.declared.written.Listed.{Listed}
use Rattle.group_reader.specs.Binding.{BoundGroups, bound_groups, grouped_with, groups_over}
use Rattle.group_reader.specs.work.Binding.{grouper}
use Rattle.group_reader.specs.work.Written.{listed_of}
use Rattle.group_reader.specs.declared.selected.Selected.{Selected}
use Rattle.group_reader.specs.declared.selected.Selected.TheVariants.{Plain, Grouped}

-- the tokens from number `first` on are this SELECT that groups, with its end
pub record IsGroupedAt (text : List ℕ) (tokens : List Token) (first : ℕ) (x : GroupedSelect) : Type 0 where
  pub offered : IsOffered READS_GROUPS
  pub word : Token
  pub spelled : IsSpelled (grouped offered unexplained word x) text (drop first tokens)

-- a well bound grouped query whose classes are made of its own items
abbrev pub IsGroupedByItself : Contents → GroupedQuery → Type 0
IsGroupedByItself c g = IsWellGrouped c g × IsClassTable (given_groups c g) g.base.classes

-- what is read where this is the meaning of a SELECT that groups: the query of it with its own classes, its fault, or there was
-- no memory
abbrev pub IsGroupedAs : Result BoundGroups Fault → Result GroupedQuery Refusal → Type 0
IsGroupedAs = Conveys (λ meant read. read ≡ grouped_with read.base.classes meant)

-- what is read is a query that is bound by itself, or a grouped one
abbrev pub IsWellSelected : Contents → Selected → Type 0
IsWellSelected c (Plain q) = IsWellBound c q × IsClassTable (given_of c q) q.classes × All HasParts q.where_all
IsWellSelected c (Grouped g) = IsGroupedByItself c g

-- what a reading says of the grammar: what is read is of the one form or the other; a fault is the statement's first one, or
-- that of a whole statement; memory runs out in a whole statement alone
abbrev pub IsAnyGrammatical : List ℕ → List Token → Result Selected Refusal → Type 0
IsAnyGrammatical text tokens (Ok (Plain q)) = AreSelect text tokens
IsAnyGrammatical text tokens (Ok (Grouped g)) = AreGrouped text tokens
IsAnyGrammatical text tokens (Err (refusal.Fault f)) = IsFirstFault IsStatement text tokens f ⊎ IsWhole text tokens
IsAnyGrammatical text tokens (Err refusal.Memory) = IsWhole text tokens

-- what is read is the plain query of a meaning, with its own classes
abbrev pub IsPlainOf : Bound → Selected → Type 0
IsPlainOf meant (Plain q) = q ≡ query_with q.classes meant
IsPlainOf meant (Grouped g) = ⊥

-- what is read is the grouped query of a meaning, with its own classes
abbrev pub IsGroupedOf : BoundGroups → Selected → Type 0
IsGroupedOf meant (Plain q) = ⊥
IsGroupedOf meant (Grouped g) = g ≡ grouped_with g.base.classes meant

-- what is read where this is the meaning of a SELECT that does not group: the query, its fault, or there was no memory
abbrev pub IsReadPlain : Result Bound Fault → Result Selected Refusal → Type 0
IsReadPlain = Conveys IsPlainOf

-- what is read where this is the meaning of a SELECT that groups: the query, its fault, or there was no memory
abbrev pub IsReadGrouped : Result BoundGroups Fault → Result Selected Refusal → Type 0
IsReadGrouped = Conveys IsGroupedOf

-- where the tokens are a SELECT that does not group, or its EXPLAIN, what is read is what it means
abbrev pub ReadsPlainSelect : Contents → List ℕ → List Token → Result Selected Refusal → Type 0
ReadsPlainSelect c text tokens read =
    (x : OrderedSelect) (start : Token) (later : List Token) → tokens ≡ start ∷ later → IsSpelled (query x) text tokens →
    IsReadPlain (bound c start x) read

-- where the tokens are a SELECT that groups, or its EXPLAIN, what is read is what it means
abbrev pub ReadsGroupedSelect : Contents → List ℕ → List Token → Result Selected Refusal → Type 0
ReadsGroupedSelect c text tokens read =
    (offered : IsOffered READS_GROUPS) (e : MaybeExplain) (k : Token) (x : GroupedSelect) (start : Token) (later : List Token) →
    tokens ≡ start ∷ later → IsSpelled (grouped offered e k x) text tokens → IsReadGrouped (bound_groups c start x) read

-- where the tokens from number `first` on are a SELECT that groups, what is read is what it means
abbrev pub BindsGrouped : Contents → List ℕ → List Token → ℕ → Result GroupedQuery Refusal → Type 0
BindsGrouped c text tokens first read =
    (x : GroupedSelect) (start : Token) (later : List Token) → tokens ≡ start ∷ later → IsGroupedAt text tokens first x →
    IsGroupedAs (bound_groups c start x) read

-- where the parts behind FROM stand first, and this is the list as it was read, what is read is what they mean over what FROM
-- names
abbrev pub BindsGroupsOver : Token → Joined → List Listed → Bool → List Terminal → Result GroupedQuery Refusal → Type 0
BindsGroupsOver start j listed distinct ts read =
    (is : List GroupedItem) (w : Where) (b : GroupBy) (y : OrderBy) (rest : List Terminal) → listed ≡ map listed_of is →
    ends_window rest ≡ true → ts ≡ words_of_where w ++ (words_of_group_by b ++ (words_of_order y ++ rest)) →
    IsGroupedAs (groups_over start is w (grouper distinct b) y j) read

-- where FROM and the parts behind it stand first, and this is the list as it was read, what is read is what they mean
abbrev pub BindsGroups : Contents → Token → List Listed → Bool → List Terminal → Result GroupedQuery Refusal → Type 0
BindsGroups c start listed distinct ts read =
    (is : List GroupedItem) (g : Group) (gs : List (Mark × Group)) (w : Where) (b : GroupBy) (y : OrderBy)
    (rest : List Terminal) → listed ≡ map listed_of is → ends_window rest ≡ true →
    ts ≡ words_of_group g ++ (words_of_groups gs ++ (words_of_where w ++ (words_of_group_by b ++ (words_of_order y ++ rest)))) →
    IsGroupedAs (next (with_groups (nothing_joined c) (g ∷ groups_after gs)) (groups_over start is w (grouper distinct b) y)) read
