-- The first fault of a statement: of its words, of its syntax, of its names and limits, then of its data, of the catalogue, or
-- of its plans (PostgreSQL manual, appendix Error Codes; the order is own).
use Rattle.std.specs.Prelude.{◌≡◌, ◌⊎◌, ℕ, ◌+◌, List, [], ◌∷◌, length, drop, slice_index_or, slice_range, Option, Some, None, Ok, Err}
use Rattle.pg_base.specs.declared.numbers.TableNo.{TableNo}
use Rattle.pg_base.specs.declared.faults.Code.TheVariants.{S5, S6, S11, S12, S13, S14, S15, S16, S17}
use Rattle.pg_base.specs.declared.faults.Limit.TheVariants.{Indexes, Tables, Rows, Text}
use Rattle.pg_base.specs.declared.faults.Fault.{Fault}
use Rattle.pg_base.specs.Faults.{data_fault, syntax_fault, words_fault}
use Rattle.sql_lex.specs.declared.tokens.Token.{Token}
use Rattle.sql_lex.specs.Words.{AreWords, IsWordFault}
use Rattle.sql_grammar.specs.CopyLine.{IsDataStart}
use Rattle.sql_grammar.specs.Syntax.{Advise, GroupedSelect, OrderedSelect, WindowedSelect, windowed_select, no_limit, no_offset, window, CreateIndex, Statement, empty, create_table, create_index, query, copy, sizes, column_statistics, analyze, advise, check, use_plan, grouped}
use Rattle.sql_grammar.specs.Faults.{IsStatement, IsFirstFault, fault_at, terminals}
use Rattle.sql_grammar.specs.Spelled.{IsSpelled}
use Rattle.index_reader.specs.AdviseMeaning.{Asked, AdviseMeans}
use Rattle.catalog.specs.declared.fault.CatalogFault.{CatalogFault}
use Rattle.catalog.specs.declared.fault.CatalogFault.TheVariants as refused
use Rattle.catalog.specs.Tables.{IsRefusal, IsIndexRefusal, IsSizeRefusal, IsStatisticsRefusal}
use Rattle.eq_classes.specs.Clauses.{ClassTable}
use Rattle.eq_classes.specs.Holding.{IsClassTable}
use Rattle.ddl_reader.specs.Block.{HaveNoMark, lines_of, IsBlockEnd}
use Rattle.ddl_reader.specs.Statements.{Means}
use Rattle.ddl_reader.specs.Tables.{Definition, table, sizes_for, statistics_for, data_for, analysis_of, Reading}
use Rattle.heap.specs.declared.fault.CopyFault.{CopyFault}
use Rattle.heap.specs.declared.fault.CopyFault.TheVariants as copying
use Rattle.heap.specs.Loading.{records_of, loaded}
use Rattle.index_prices.specs.Replies.{HasNoAdviceFor}
use Rattle.index_reader.specs.Meaning.{IndexMeant as IndexReading, meaning_of_index}
use Rattle.index_reader.specs.Places.{word_fault}
use Rattle.group_query.specs.Grouping.{given_groups}
use Rattle.group_reader.specs.Binding.{BoundGroups, bound_groups, grouped_with}
use Rattle.group_reply.specs.group_explain_Plans.{HasNoGroupPlan}
use Rattle.query_reader.specs.Binding.{Bound, bound, bound_part, query_with}
use Rattle.query_reader.specs.Select.{words_before}
use Rattle.sql_query.specs.WellBound.{given_of}
use Rattle.sql_query.specs.Worlds.{World, stored_at}
use Rattle.sql_lex.specs.Ends.{token_at}
use Rattle.statements.specs.Accepted.{HaveClasses}
use Rattle.plan_tree.specs.Least.{HasNoPlan}

-- where the words end that begin at these offsets
abbrev pub word_ends : List ℕ → List (List ℕ) → List ℕ
word_ends [] words = []
word_ends (a ∷ at) [] = []
word_ends (a ∷ at) (word ∷ words) = (a + length word) ∷ word_ends at words

-- the fault of what the catalogue refuses a table for, whose words begin and end at these offsets, the new name first: at the
-- new name, or at a repeated column's. A wrong number is no cause for a table, and running out of memory no fault
abbrev pub table_fault : CatalogFault → (at ends : List ℕ) → Option Fault
table_fault refused.NameTaken at ends = Some (words_fault S5 (slice_index_or at 0 0) (slice_index_or ends 0 0))
table_fault (refused.ColumnTwice place) at ends = Some (words_fault S6 (slice_index_or at (place + 1) 0) (slice_index_or ends (place + 1) 0))
table_fault refused.TooMany at ends = Some (words_fault (S15 Tables) (slice_index_or at 0 0) (slice_index_or ends 0 0))
table_fault (refused.BadNumber place) at ends = None
table_fault refused.Memory at ends = None

-- the fault of what the catalogue refuses an index for, whose words begin at these offsets, the new name first and then its
-- columns: at the new name, at a repeated column's, or, for the form of a hash index, at the access method's
abbrev pub index_fault : CatalogFault → (at : List ℕ) → (method : ℕ) → List Token → Option Fault
index_fault refused.NameTaken at method tokens = Some (word_fault S5 tokens (slice_index_or at 0 0))
index_fault (refused.ColumnTwice place) at method tokens = Some (word_fault S6 tokens (slice_index_or at (place + 1) 0))
index_fault refused.TooMany at method tokens = Some (word_fault (S15 Indexes) tokens (slice_index_or at 0 0))
index_fault (refused.BadNumber place) at method tokens = Some (word_fault S17 tokens method)
index_fault refused.Memory at method tokens = None

-- the fault of what the catalogue refuses statistics for, whose numbers and literals begin at these offsets: at the first that
-- is not allowed
abbrev pub number_fault : CatalogFault → (at : List ℕ) → Option Fault
number_fault (refused.BadNumber place) at = let here = slice_index_or at place 0 in Some (words_fault S17 here here)
number_fault _ at = None

-- the fault of what data for a table, from an offset on, are refused for; running out of memory is none
abbrev pub rows_fault : CopyFault → TableNo → ℕ → Option Fault
rows_fault (copying.Arity rec) t start = Some (data_fault S13 start rec t 0)
rows_fault (copying.Range rec col) t start = Some (data_fault S11 start rec t col.0)
rows_fault (copying.Invalid rec col) t start = Some (data_fault S12 start rec t col.0)
rows_fault (copying.IsNull rec col) t start = Some (data_fault S14 start rec t col.0)
rows_fault (copying.TooLong rec col) t start = Some (data_fault (S15 Text) start rec t col.0)
rows_fault (copying.TooMany rec) t start = Some (data_fault (S15 Rows) start rec t 0)
rows_fault copying.Memory t start = None

-- data, a certificate or a plan without a line that ends them
abbrev pub endless_fault : ℕ → Fault
endless_fault start = data_fault S13 start 0 (record { 0 = 0 }) 0

-- data that are ended, and the fault of what stands before the end
abbrev pub IsBlockFault : World → List ℕ → TableNo → ℕ → Fault → Type 0
IsBlockFault w text t start f =
    (end next : ℕ) × (e : CopyFault) × IsBlockEnd text start end next × (loaded (stored_at w t) (records_of (slice_range text start end)) ≡ Err e) × (rows_fault e t start ≡ Some f)

-- why a definition is not carried out: the catalogue refuses it, a new table or statistics of one; or the data have no end, or
-- an error. What is found of a table's rows is never refused
abbrev pub IsRefused : World → List ℕ → Definition → List ℕ → Fault → Type 0
IsRefused w text (table name names columns) at f = (e : CatalogFault) × IsRefusal w.contents name names e × (table_fault e at (word_ends at (name ∷ names)) ≡ Some f)
IsRefused w text (sizes_for t rows pages) at f = (e : CatalogFault) × IsSizeRefusal rows pages e × (number_fault e at ≡ Some f)
IsRefused w text (statistics_for t column s) at f = (e : CatalogFault) × IsStatisticsRefusal s e × (number_fault e at ≡ Some f)
IsRefused w text (data_for t start) at f = (HaveNoMark (lines_of (drop start text)) × (f ≡ endless_fault start)) ⊎ IsBlockFault w text t start f
IsRefused w text (analysis_of t) at f = ⊥

-- a definition's fault: in its names and limits, or why it is not carried out
abbrev pub IsDefinitionFault : World → List ℕ → Statement → Fault → Type 0
IsDefinitionFault w text x f = Means w.contents text x (Err f) ⊎ ((r : Reading) × Means w.contents text x (Ok r) × IsRefused w text r.definition r.at f)

-- a fault of CREATE INDEX: in its names and limits, or the catalogue refuses the index
abbrev pub IsIndexFault : World → List Token → CreateIndex → Fault → Type 0
IsIndexFault w tokens x f =
    (meaning_of_index w.contents x ≡ Err f) ⊎ ((r : IndexReading) × (e : CatalogFault) × (meaning_of_index w.contents x ≡ Ok r) × IsIndexRefusal w.contents r.name r.index e × (index_fault e r.at r.method tokens ≡ Some f))

-- the fault of a query without an admissible plan: an error at the word SELECT
abbrev pub no_plan : List ℕ → List Token → Fault
no_plan text tokens = fault_at S16 (token_at tokens (words_before (terminals text tokens)))

-- a bound query with its classes has no admissible plan
abbrev pub IsUnplanned : World → List ℕ → List Token → Bound → Fault → Type 0
IsUnplanned w text tokens b f =
    (t : ClassTable) × IsClassTable (given_of w.contents (query_with t b)) t × HasNoPlan w.contents (query_with t b) × (f ≡ no_plan text tokens)

-- a fault of a query: in its names and limits, or that it has no admissible plan
abbrev pub IsQueryFault : World → List ℕ → List Token → OrderedSelect → Fault → Type 0
IsQueryFault w text tokens x f =
    (bound w.contents (token_at tokens 0) x ≡ Err f) ⊎ ((b : Bound) × (bound w.contents (token_at tokens 0) x ≡ Ok b) × IsUnplanned w text tokens b f)

-- the fault of an ADVISE without an advice: an error at the word ADVISE
abbrev pub no_advice : List Token → Fault
no_advice tokens = fault_at S16 (token_at tokens 0)

-- with no set of at most so many of the candidates each query, with its classes, has an admissible plan
abbrev pub IsUnadvised : World → List Token → Asked → Fault → Type 0
IsUnadvised w tokens a f = HaveClasses w.contents a.queries × HasNoAdviceFor w.contents a.candidates a.queries a.most × (f ≡ no_advice tokens)

-- a fault of ADVISE: in its names and limits, or that there is no advice
abbrev pub IsAdviseFault : World → List Token → Advise → Fault → Type 0
IsAdviseFault w tokens x f = AdviseMeans w.contents tokens x (Err f) ⊎ ((a : Asked) × AdviseMeans w.contents tokens x (Ok a) × IsUnadvised w tokens a f)

-- a fault of CHECK or USE PLAN of a SELECT, whose words end with this `;`: of the rest of its line; then in the names and
-- limits of the SELECT; then that no line ends the lines behind it
pub data IsCheckFault (w : World) (text : List ℕ) (tokens : List Token) (x : WindowedSelect) (stop : Token) (f : Fault) : Type 0 where
  in_line : IsDataStart text stop.end (Err f) → IsCheckFault w text tokens x stop f
  in_select : (start : ℕ) → IsDataStart text stop.end (Ok start) → bound_part w.contents (token_at tokens 0) x ≡ Err f → IsCheckFault w text tokens x stop f
  without_end : (start : ℕ) (b : Bound) → IsDataStart text stop.end (Ok start) → bound_part w.contents (token_at tokens 0) x ≡ Ok b → HaveNoMark (lines_of (drop start text)) → f ≡ endless_fault start → IsCheckFault w text tokens x stop f

-- the grouped query with its classes has no admissible plan that groups
pub record IsUngroupable (w : World) (text : List ℕ) (tokens : List Token) (b : BoundGroups) (f : Fault) : Type 0 where
  pub classes : ClassTable
  pub own : IsClassTable (given_groups w.contents (grouped_with classes b)) classes
  pub none : HasNoGroupPlan w.contents (grouped_with classes b)
  pub is : f ≡ no_plan text tokens

-- a fault of a SELECT that groups: in its names, what is not grouped, and its limits, or that no plan that groups is admissible
abbrev pub IsGroupFault : World → List ℕ → List Token → GroupedSelect → Fault → Type 0
IsGroupFault w text tokens x f =
    (bound_groups w.contents (token_at tokens 0) x ≡ Err f) ⊎ ((b : BoundGroups) × (bound_groups w.contents (token_at tokens 0) x ≡ Ok b) × IsUngroupable w text tokens b f)

-- the first fault of a statement whose syntax has none
abbrev pub IsMeaningFault : World → List ℕ → List Token → Statement → Fault → Type 0
IsMeaningFault w text tokens (empty e) f = ⊥
IsMeaningFault w text tokens (create_index x) f = IsIndexFault w tokens x f
IsMeaningFault w text tokens (query x) f = IsQueryFault w text tokens x f
IsMeaningFault w text tokens (create_table k t n o c cs m e) f = IsDefinitionFault w text (create_table k t n o c cs m e) f
IsMeaningFault w text tokens (sizes k n r p e) f = IsDefinitionFault w text (sizes k n r p e) f
IsMeaningFault w text tokens (column_statistics k n c d nulls commons bounds e) f = IsDefinitionFault w text (column_statistics k n c d nulls commons bounds e) f
IsMeaningFault w text tokens (copy k n null) f = IsDefinitionFault w text (copy k n null) f
IsMeaningFault w text tokens (analyze p k n e) f = IsDefinitionFault w text (analyze p k n e) f
IsMeaningFault w text tokens (advise x) f = IsAdviseFault w tokens x f
IsMeaningFault w text tokens (check p k x s) f = IsCheckFault w text tokens x s f
IsMeaningFault w text tokens (use_plan p k l q y s) f = IsCheckFault w text tokens (windowed_select q y (window no_limit no_offset)) s f
IsMeaningFault w text tokens (grouped p e k q) f = IsGroupFault w text tokens q f

-- the first fault of a statement whose words have none: of its syntax, or of what it means
pub data IsFaultOver (w : World) (text : List ℕ) (tokens : List Token) (f : Fault) : Type 0 where
  in_syntax : IsFirstFault IsStatement text tokens f → IsFaultOver w text tokens f
  in_meaning : (x : Statement) → IsSpelled x text tokens → IsMeaningFault w text tokens x f → IsFaultOver w text tokens f

-- the first fault of the statement that begins at this place: of its words, or after them
pub data IsFault (w : World) (text : List ℕ) (from : ℕ) (f : Fault) : Type 0 where
  in_words : f ≡ syntax_fault f.at → IsWordFault text from f.at → IsFault w text from f
  after_words : (tokens : List Token) → AreWords text from tokens → IsFaultOver w text tokens f → IsFault w text from f
