-- Which statement begins at a place of a script, what it does, and where the next one begins (PostgreSQL manual, chapter SQL
-- Commands).
use Rattle.std.specs.Prelude.{◌≡◌, ℕ, true, All, List, slice_range, Ok}
use Rattle.sql_lex.specs.declared.tokens.Token.{Token}
use Rattle.sql_lex.specs.Ends.{token_at, end_of}
use Rattle.sql_lex.specs.Words.{AreWords}
use Rattle.sql_grammar.specs.CopyLine.{IsDataStart}
use Rattle.sql_grammar.specs.Syntax.{Advise, CreateIndex, GroupedSelect, MaybeExplain, unexplained, explained, no_limit, no_offset, window, Statement, WindowedSelect, windowed_select, empty, create_table, create_index, query, copy, sizes, column_statistics, analyze, advise as advise_tree, check, use_plan, grouped}
use Rattle.sql_grammar.specs.Faults.{terminals}
use Rattle.sql_grammar.specs.Spelled.{IsSpelled}
use Rattle.index_reader.specs.AdviseMeaning.{Asked, AdviseMeans}
use Rattle.catalog.specs.Contents.{Contents}
use Rattle.catalog.specs.Statistics.{AreAllowed, is_count}
use Rattle.catalog.specs.Tables.{IsAcceptable, IsAcceptableIndex}
use Rattle.eq_classes.specs.Clauses.{ClassTable}
use Rattle.eq_classes.specs.Holding.{IsClassTable}
use Rattle.ddl_reader.specs.Block.{IsBlockEnd}
use Rattle.ddl_reader.specs.Statements.{Means}
use Rattle.ddl_reader.specs.Tables.{Definition, table, sizes_for, statistics_for, data_for, analysis_of, Reading}
use Rattle.heap.specs.Loading.{records_of, loaded}
use Rattle.heap.specs.Stored.{Stored}
use Rattle.index_reader.specs.Meaning.{IndexMeant as IndexReading, meaning_of_index}
use Rattle.group_query.specs.Grouping.{given_groups}
use Rattle.group_reader.specs.Binding.{BoundGroups, bound_groups, grouped_with}
use Rattle.query_reader.specs.Binding.{Bound, bound, bound_part, query_with}
use Rattle.query_reader.specs.Wanted.{wanted_by}
use Rattle.query_reader.specs.declared.wanted.Wanted.{Wanted}
use Rattle.query_reader.specs.declared.wanted.Wanted.TheVariants as wanted
use Rattle.sql_query.specs.Grouped.{GroupedQuery}
use Rattle.sql_query.specs.Queries.{Query}
use Rattle.sql_query.specs.WellBound.{given_of}
use Rattle.sql_query.specs.Worlds.{World, stored_at}
use Rattle.store.specs.Actions.{Action, idle, make, build, size, describe, fill, gather, answer, explain, certify, advise, verify, follow, answer_groups, explain_groups}

-- what a definition does, and the offset after it: a table is accepted by the catalogue; so are the sizes of a table and the
-- statistics of a column; data go up to the line that ends them, and the table takes them; and the statistics of a table are
-- gathered from its rows
abbrev pub Carries : World → List ℕ → List Token → Definition → Action → ℕ → Type 0
Carries w text tokens (table name names columns) action next = IsAcceptable w.contents name names × (action ≡ make name names columns) × (next ≡ end_of tokens)
Carries w text tokens (sizes_for t rows pages) action next = (is_count rows ≡ true) × (is_count pages ≡ true) × (action ≡ size t rows pages) × (next ≡ end_of tokens)
Carries w text tokens (statistics_for t column s) action next = AreAllowed s × (action ≡ describe t column s) × (next ≡ end_of tokens)
Carries w text tokens (data_for t start) action next =
    (end : ℕ) × (s : Stored) × IsBlockEnd text start end next × (loaded (stored_at w t) (records_of (slice_range text start end)) ≡ Ok s) × (action ≡ fill t s)
Carries w text tokens (analysis_of t) action next = (action ≡ gather t) × (next ≡ end_of tokens)

-- what a definition that is read does, and the offset after it
abbrev pub Defines : World → List ℕ → List Token → Statement → Action → ℕ → Type 0
Defines w text tokens x action next = (r : Reading) × Means w.contents text x (Ok r) × Carries w text tokens r.definition action next

-- CREATE INDEX makes the index that it means, where the catalogue accepts it
abbrev pub Indexes : World → List Token → CreateIndex → Action → ℕ → Type 0
Indexes w tokens x action next =
    (r : IndexReading) × (meaning_of_index w.contents x ≡ Ok r) × IsAcceptableIndex w.contents r.name r.index × (action ≡ build r.name r.index) × (next ≡ end_of tokens)

-- a query is answered, its plan is explained, or its plan with the table of it
abbrev pub asked_as : Wanted → Query → Action
asked_as wanted.Rows q = answer q
asked_as wanted.Plan q = explain q
asked_as wanted.Table q = certify q

-- as the first words ask: EXPLAIN asks for the plan, EXPLAIN (TABLE) for its table too
abbrev pub action_asked : List ℕ → List Token → Query → Action
action_asked text tokens q = asked_as (wanted_by (terminals text tokens)) q

-- what a SELECT that means this does: it answers or explains the query with its classes
abbrev pub Answers : World → List ℕ → List Token → Bound → Action → Type 0
Answers w text tokens b action = (t : ClassTable) × IsClassTable (given_of w.contents (query_with t b)) t × (action ≡ action_asked text tokens (query_with t b))

-- each query has the table of its classes
abbrev pub HaveClasses : Contents → List Query → Type 0
HaveClasses c queries = All (λ q. IsClassTable (given_of c q) q.classes) queries

-- what ADVISE of these tokens does: it tells which of the candidates to make for the queries with their classes
abbrev pub Advises : World → List Token → Advise → Action → Type 0
Advises w tokens x action = (a : Asked) × AdviseMeans w.contents tokens x (Ok a) × HaveClasses w.contents a.queries × (action ≡ advise a.most a.candidates a.queries)

-- what CHECK or USE PLAN of a SELECT does, whose words end with this `;`, and the offset after it: so much with the query with
-- its classes and the bytes from the line behind its own up to the first line `\.`
pub record Takes (w : World) (text : List ℕ) (tokens : List Token) (x : WindowedSelect) (stop : Token) (act : Query → List ℕ → Action) (action : Action) (next : ℕ) : Type 0 where
  pub start : ℕ
  pub end : ℕ
  pub meant : Bound
  pub classes : ClassTable
  pub begins : IsDataStart text stop.end (Ok start)
  pub means : bound_part w.contents (token_at tokens 0) x ≡ Ok meant
  pub ends : IsBlockEnd text start end next
  pub own : IsClassTable (given_of w.contents (query_with classes meant)) classes
  pub acts : action ≡ act (query_with classes meant) (slice_range text start end)

-- a grouped query is answered, or its plan explained
abbrev pub asked_of_groups : MaybeExplain → GroupedQuery → Action
asked_of_groups unexplained g = answer_groups g
asked_of_groups (explained _) g = explain_groups g

-- what a SELECT that groups and means this does: the grouped query with its classes is answered or explained
pub record Groups (w : World) (e : MaybeExplain) (b : BoundGroups) (action : Action) : Type 0 where
  pub classes : ClassTable
  pub own : IsClassTable (given_groups w.contents (grouped_with classes b)) classes
  pub asks : action ≡ asked_of_groups e (grouped_with classes b)

-- what a statement of these tokens does, and the offset after it
abbrev pub Does : World → List ℕ → List Token → Statement → Action → ℕ → Type 0
Does w text tokens (empty e) action next = (action ≡ idle) × (next ≡ end_of tokens)
Does w text tokens (create_index x) action next = Indexes w tokens x action next
Does w text tokens (query x) action next = (b : Bound) × (bound w.contents (token_at tokens 0) x ≡ Ok b) × Answers w text tokens b action × (next ≡ end_of tokens)
Does w text tokens (create_table k t n o c cs m e) action next = Defines w text tokens (create_table k t n o c cs m e) action next
Does w text tokens (sizes k n r p e) action next = Defines w text tokens (sizes k n r p e) action next
Does w text tokens (column_statistics k n c d nulls commons bounds e) action next = Defines w text tokens (column_statistics k n c d nulls commons bounds e) action next
Does w text tokens (copy k n null) action next = Defines w text tokens (copy k n null) action next
Does w text tokens (analyze p k n e) action next = Defines w text tokens (analyze p k n e) action next
Does w text tokens (advise_tree x) action next = Advises w tokens x action × (next ≡ end_of tokens)
Does w text tokens (check p k x s) action next = Takes w text tokens x s verify action next
Does w text tokens (use_plan p k l q y s) action next = Takes w text tokens (windowed_select q y (window no_limit no_offset)) s follow action next
Does w text tokens (grouped p e k q) action next = (b : BoundGroups) × (bound_groups w.contents (token_at tokens 0) q ≡ Ok b) × Groups w e b action × (next ≡ end_of tokens)

-- the tokens are a statement that does this
pub record IsReadOver (w : World) (text : List ℕ) (tokens : List Token) (action : Action) (next : ℕ) : Type 0 where
  pub statement : Statement
  pub spelled : IsSpelled statement text tokens
  pub does : Does w text tokens statement action next

-- the statement that begins at this place does this, and the next one begins at `next`
abbrev pub IsRead : World → List ℕ → ℕ → Action → ℕ → Type 0
IsRead w text from action next = (tokens : List Token) × AreWords text from tokens × IsReadOver w text tokens action next
