-- Working words beside those of `Select`.
use Rattle.std.specs.Prelude.{◌≡◌, ◌⊎◌, ℕ, Bool, true, false, List, ◌∷◌, drop, Result, Ok, Err}
use Rattle.pg_base.specs.declared.faults.Code.TheVariants.{S1}
use Rattle.pg_base.specs.declared.faults.Fault.{Fault}
use Rattle.pg_base.specs.declared.faults.Refusal.{Refusal}
use Rattle.pg_base.specs.declared.faults.Refusal.TheVariants as refusal
use Rattle.sql_lex.specs.declared.tokens.Token.{Token}
use Rattle.sql_grammar.specs.declared.class.Free.TheVariants.{Explain}
use Rattle.sql_grammar.specs.declared.class.Word.TheVariants.{Select as SelectKey}
use Rattle.sql_grammar.specs.declared.offered.TheConstants.{READS_GROUPS}
use Rattle.sql_grammar.specs.Terminals.{Terminal, free, t_key, t_name}
use Rattle.sql_grammar.specs.Syntax.{GroupedSelect, IsOffered, MaybeExplain, OrderedSelect, Statement, WindowedSelect, grouped, query}
use Rattle.sql_grammar.specs.Words.{words_of}
use Rattle.sql_grammar.specs.Faults.{IsStatement, IsFirstFault, fault_at, terminals}
use Rattle.sql_grammar.specs.work.Faults.{IsWhole}
use Rattle.sql_grammar.specs.Spelled.{IsSpelled}
use Rattle.catalog.specs.Contents.{Contents}
use Rattle.eq_classes.specs.Holding.{IsClassTable}
use Rattle.sql_query.specs.Queries.{Query}
use Rattle.sql_query.specs.WellBound.{IsWellBound, given_of}
use Rattle.query_reader.specs.Binding.{Bound, bound_part, query_with}
use Rattle.query_reader.specs.work.Conveys.{Conveys}
use Rattle.query_reader.specs.work.Parts.{HaveSelectAt, IsPartAt, IsSelectAt}

-- EXPLAIN is the first word
abbrev pub is_explained : List Terminal → Bool
is_explained (t_name (free Explain _) ∷ _) = true
is_explained _ = false

-- the first word is SELECT or EXPLAIN
abbrev pub begins_query : List Terminal → Bool
begins_query (t_key SelectKey _ ∷ _) = true
begins_query ts = is_explained ts

-- a SELECT of either form: one that groups or another one
abbrev pub is_query : Statement → Bool
is_query (query _) = true
is_query (grouped _ _ _ _) = true
is_query _ = false

-- the tokens are no statement of another kind
abbrev pub AreNoOther : List ℕ → List Token → Type 0
AreNoOther text tokens = (x : Statement) → words_of x ≡ terminals text tokens → is_query x ≡ true

-- the tokens are a SELECT that does not group, or its EXPLAIN
abbrev pub AreSelect : List ℕ → List Token → Type 0
AreSelect text tokens = (x : OrderedSelect) × IsSpelled (query x) text tokens

-- the tokens are a SELECT that groups, or its EXPLAIN
pub record AreGrouped (text : List ℕ) (tokens : List Token) : Type 0 where
  pub offered : IsOffered READS_GROUPS
  pub explaining : MaybeExplain
  pub word : Token
  pub select : GroupedSelect
  pub spelled : IsSpelled (grouped offered explaining word select) text tokens

-- SELECT is next
abbrev pub begins_select : List Terminal → Bool
begins_select (t_key SelectKey _ ∷ _) = true
begins_select _ = false

-- the first word is wrong
abbrev pub IsAtFirst : List Token → Fault → Type 0
IsAtFirst tokens f = (token : Token) × (later : List Token) × (tokens ≡ token ∷ later) × (f ≡ fault_at S1 token)

-- why some tokens are no SELECT with its end that does not group: another first word is wrong, or it is the first fault of a
-- statement that begins with that word, or that word is wrong before a SELECT that groups
abbrev pub IsFaultBy : List ℕ → List Token → Fault → Bool → Type 0
IsFaultBy text tokens f true = IsFirstFault IsStatement text tokens f ⊎ (AreGrouped text tokens × IsAtFirst tokens f)
IsFaultBy text tokens f false = IsAtFirst tokens f

-- no SELECT stands from number `first` on up to the end, for this fault
pub record IsNoSelectAt (text : List ℕ) (tokens : List Token) (first : ℕ) (fault : Fault) : Type 0 where
  pub none : ¬ HaveSelectAt text tokens first
  pub cause : IsFaultBy text (drop first tokens) fault (begins_select (terminals text (drop first tokens)))

-- the tokens are a statement, with such a SELECT
pub record AreWithSelectAt (text : List ℕ) (tokens : List Token) (first : ℕ) : Type 0 where
  pub whole : IsWhole text tokens
  pub select : HaveSelectAt text tokens first

-- what a reading says of the grammar: what is read is the SELECT at `first`, so is what there is no memory for, and a fault is
-- the statement's first one, that no SELECT stands there in a statement without one, or a fault of that SELECT
abbrev pub IsGrammatical : List ℕ → List Token → ℕ → Result Query Refusal → Type 0
IsGrammatical text tokens first (Ok read) = AreWithSelectAt text tokens first
IsGrammatical text tokens first (Err (refusal.Fault fault)) =
    IsFirstFault IsStatement text tokens fault ⊎ ((IsWhole text tokens × IsNoSelectAt text tokens first fault) ⊎ AreWithSelectAt text tokens first)
IsGrammatical text tokens first (Err refusal.Memory) = AreWithSelectAt text tokens first

-- what is read where this is the meaning: the query of it with its own classes, its fault, or there was no memory
abbrev pub IsBoundAs : Result Bound Fault → Result Query Refusal → Type 0
IsBoundAs = Conveys (λ meant read. read ≡ query_with read.classes meant)

-- a well bound query whose classes are made of its own ORDER BY
pub record IsBoundByItself (c : Contents) (q : Query) : Type 0 where
  pub well_bound : IsWellBound c q
  pub classes : IsClassTable (given_of c q) q.classes

-- where the tokens from `first` up to `end` are a SELECT with its order and its window, what is read is what it means, in a
-- statement that begins at the first token
abbrev pub BindsPart : Contents → List ℕ → List Token → ℕ → ℕ → Result Query Refusal → Type 0
BindsPart c text tokens first end read =
    (x : WindowedSelect) (start : Token) (later : List Token) → tokens ≡ start ∷ later → IsPartAt text tokens first end x →
    IsBoundAs (bound_part c start x) read

-- where the tokens from `first` on are a SELECT that the end of the statement ends, what is read is what it means
abbrev pub BindsSelect : Contents → List ℕ → List Token → ℕ → Result Query Refusal → Type 0
BindsSelect c text tokens first read =
    (x : WindowedSelect) (start : Token) (later : List Token) → tokens ≡ start ∷ later → IsWhole text tokens →
    IsSelectAt text tokens first x →
    IsBoundAs (bound_part c start x) read
