-- A statement by its first word.
use Rattle.std.proofs.Common.{◌≡◌, ◌⊎◌, ℕ, Bool, true, false, List, [], ◌∷◌, ◌++◌, drop, subst, sym, refl, ap, ◌∙◌, Result, Ok, Err, inl, inr, IfOk, IfErr}
use Rattle.pg_base.specs.declared.faults.Fault.{Fault}
use Rattle.pg_base.specs.declared.faults.Refusal.{Refusal}
use Rattle.pg_base.specs.declared.faults.Refusal.TheVariants as refusal
use Rattle.sql_lex.specs.declared.tokens.Token.{Token}
use Rattle.sql_grammar.specs.declared.class.Word.TheVariants.{Create}
use Rattle.sql_grammar.specs.declared.class.Free.TheVariants.{Analyze, Distinct, Nulls as NullsWord, Pages, Rows, Statistics}
use Rattle.sql_grammar.specs.declared.class.Symbol.TheVariants.{Dot, Open}
use Rattle.sql_grammar.specs.Terminals.{Terminal, Ident, Said, free, token_of, t_key, t_mark, t_name}
use Rattle.sql_grammar.specs.Syntax.{Key, Mark, ColDef, CopyWords, CommonPart, Histogram, Ending, Statement, empty, create_table, create_index, query, copy, sizes, column_statistics, analyze, semicolon, text_end, index_on, no_explain, explain, explain_table, ordered_select, select_from, advise, advise_of, check, use_plan, unexplained, explained, grouped}
use Rattle.sql_grammar.specs.Words.{words_of, words_of_ending}
use Rattle.sql_grammar.specs.Faults.{bytes_of, terminals}
use Rattle.sql_grammar.specs.work.Faults.{IsWhole}
use Rattle.sql_grammar.specs.CopyLine.{IsDataStart}
use Rattle.sql_grammar.proofs.ExprTrees.{tokens-are}
use Rattle.expr_reader.specs.work.Reading.{BeginsNot}
use Rattle.catalog.specs.Contents.{Contents}
use Rattle.catalog.specs.Tables.{table_named}
use Rattle.ddl_reader.specs.declared.ddl.Read.{Read}
use Rattle.ddl_reader.specs.Columns.{defined_column, further, bound_all}
use Rattle.ddl_reader.specs.work.AsMeant.{words_of_body, IsAsMeant, SpellsSizes, SpellsColumn, ends_common, ends_histogram, words_of_sizes, words_of_column}
use Rattle.ddl_reader.specs.Statistics.{stated_rows, column_statistics_of, commons_of, bounds_of, analysis}
use Rattle.ddl_reader.specs.Tables.{Reading, bound_table, data_after}
use Rattle.ddl_reader.specs.Statements.{Means}
use Rattle.ddl_reader.specs.work.Statements.{begins_ddl, HasNoLineFault, IsMeaning, IsDdlFault, IsDdlRefusal}
use Rattle.ddl_reader.specs.work.Readings.{reading, ReadsAs, IsSyntaxRefusal}

-- a statement that is CREATE TABLE, whose words after CREATE are these
pub record CreatesTable (x : Statement) (left : List Terminal) : Type 0 where
  pub create : Key
  pub table : Key
  pub name : Ident
  pub opening : Mark
  pub column : ColDef
  pub columns : List (Mark × ColDef)
  pub closing : Mark
  pub ending : Ending
  pub is : x ≡ create_table create table name opening column columns closing ending
  pub words : drop 1 left ≡ t_name name ∷ t_mark Open opening ∷ words_of_body column columns closing (words_of_ending ending)

pub creates : (x : Statement) (token : Token) (left : List Terminal) → begins_ddl (words_of x) ≡ true → words_of x ≡ t_key Create token ∷ left → CreatesTable x left
creates (create_table k t n o c cs m e) token left ddl is =
    record { create = k; table = t; name = n; opening = o; column = c; columns = cs; closing = m; ending = e; is = refl; words = ap (drop 2) (sym is) }
creates (empty (semicolon t)) token left ddl is = absurd (cc (is))
creates (empty (text_end t)) token left ddl is = absurd (cc (is))
creates (create_index (index_on k i n o t u p x xs m c w e)) token left ddl is = absurd (cc (ddl))
creates (query (ordered_select no_explain (select_from k o os f n a w) y v e)) token left ddl is = absurd (cc (is))
creates (query (ordered_select (explain k) q y v e)) token left ddl is = absurd (cc (is))
creates (query (ordered_select (explain_table p k a t b) q y v e)) token left ddl is = absurd (cc (is))
creates (advise (advise_of p k n o c cs m x xs e)) token left ddl is = absurd (cc (is))
creates (check p k x e) token left ddl is = absurd (cc (is))
creates (use_plan p u k q y e) token left ddl is = absurd (cc (is))
creates (grouped p unexplained k q) token left ddl is = absurd (cc (is))
creates (grouped p (explained t) k q) token left ddl is = absurd (cc (is))
creates (copy k n null) token left ddl is = absurd (cc (is))
creates (sizes k n rows pages e) token left ddl is = absurd (cc (is))
creates (column_statistics k n c d z m h e) token left ddl is = absurd (cc (is))
creates (analyze offered k n e) token left ddl is = absurd (cc (is))

-- a statement that is COPY
abbrev pub LoadsData : Statement → Type 0
LoadsData x = (k : CopyWords) × (n : Ident) × (null : Said) × (x ≡ copy k n null)

pub loads : (x : Statement) (ts : List Terminal) → words_of x ≡ ts → begins_ddl ts ≡ true → BeginsNot (t_key Create) ts → BeginsNot (λ token. t_name (free Statistics token)) ts → BeginsNot (λ token. t_name (free Analyze token)) ts →
    LoadsData x
loads (create_table k t n o c cs m e) ts is ddl other others none = absurd (other _ (k, sym is))
loads (empty (semicolon t)) ts is ddl other others none = let wrong = ap begins_ddl is ∙ ddl in absurd (cc (wrong))
loads (empty (text_end t)) ts is ddl other others none = let wrong = ap begins_ddl is ∙ ddl in absurd (cc (wrong))
loads (create_index (index_on k i n o t u p x xs m c w e)) ts is ddl other others none = absurd (other _ (k, sym is))
loads (query (ordered_select no_explain (select_from k o os f n a w) y v e)) ts is ddl other others none = let wrong = ap begins_ddl is ∙ ddl in absurd (cc (wrong))
loads (query (ordered_select (explain k) q y v e)) ts is ddl other others none = let wrong = ap begins_ddl is ∙ ddl in absurd (cc (wrong))
loads (query (ordered_select (explain_table p k a t b) q y v e)) ts is ddl other others none = let wrong = ap begins_ddl is ∙ ddl in absurd (cc (wrong))
loads (advise (advise_of p k n o c cs m x xs e)) ts is ddl other others none = let wrong = ap begins_ddl is ∙ ddl in absurd (cc (wrong))
loads (check p k x e) ts is ddl other others none = let wrong = ap begins_ddl is ∙ ddl in absurd (cc (wrong))
loads (use_plan p u k q y e) ts is ddl other others none = let wrong = ap begins_ddl is ∙ ddl in absurd (cc (wrong))
loads (grouped p unexplained k q) ts is ddl other others none = let wrong = ap begins_ddl is ∙ ddl in absurd (cc (wrong))
loads (grouped p (explained t) k q) ts is ddl other others none = let wrong = ap begins_ddl is ∙ ddl in absurd (cc (wrong))
loads (copy k n null) ts is ddl other others none = (k, n, null, refl)
loads (sizes k n rows pages e) ts is ddl other others none = absurd (others _ (k.statistics, sym is))
loads (column_statistics k n c d z m h e) ts is ddl other others none = absurd (others _ (k.statistics, sym is))
loads (analyze offered k n e) ts is ddl other others none = absurd (none _ (k, sym is))

-- the word that ends a statement is none of its lists
ends-lists : (e : Ending) → (ends_common (words_of_ending e) ≡ true) × (ends_histogram (words_of_ending e) ≡ true)
ends-lists (semicolon t) = (refl, refl)
ends-lists (text_end t) = (refl, refl)

-- a statement that is STATISTICS, whose words after that word are these
pub describes : (x : Statement) (token : Token) (left : List Terminal) → words_of x ≡ t_name (free Statistics token) ∷ left → SpellsSizes left ⊎ SpellsColumn left
describes (sizes k n rows pages e) token left is = inl (n, free Rows k.rows, rows, t_name (free Pages k.pages), pages, words_of_ending e, ap (drop 1) (sym is))
describes (column_statistics k n c d z m h e) token left is =
    inr (n, k.dot, c, t_name (free Distinct k.distinct), d, t_name (free NullsWord k.nulls), z, m, h, words_of_ending e, (ends-lists e).0, (ends-lists e).1, ap (drop 1) (sym is))
describes (create_table k t n o c cs m e) token left is = absurd (cc (is))
describes (empty (semicolon t)) token left is = absurd (cc (is))
describes (empty (text_end t)) token left is = absurd (cc (is))
describes (create_index (index_on k i n o t u p x xs m c w e)) token left is = absurd (cc (is))
describes (query (ordered_select no_explain (select_from k o os f n a w) y v e)) token left is = absurd (cc (is))
describes (query (ordered_select (explain k) q y v e)) token left is = absurd (cc (is))
describes (query (ordered_select (explain_table p k a t b) q y v e)) token left is = absurd (cc (is))
describes (advise (advise_of p k n o c cs m x xs e)) token left is = absurd (cc (is))
describes (check p k x e) token left is = absurd (cc (is))
describes (use_plan p u k q y e) token left is = absurd (cc (is))
describes (grouped p unexplained k q) token left is = absurd (cc (is))
describes (grouped p (explained t) k q) token left is = absurd (cc (is))
describes (copy k n null) token left is = absurd (cc (is))
describes (analyze offered k n e) token left is = absurd (cc (is))

-- a statement that is ANALYZE, whose words after that word are these
pub analyzes : (x : Statement) (token : Token) (left : List Terminal) → words_of x ≡ t_name (free Analyze token) ∷ left → (n : Ident) × (rest : List Terminal) × (left ≡ t_name n ∷ rest)
analyzes (analyze offered k n e) token left is = (n, words_of_ending e, ap (drop 1) (sym is))
analyzes (create_table k t n o c cs m e) token left is = absurd (cc (is))
analyzes (empty (semicolon t)) token left is = absurd (cc (is))
analyzes (empty (text_end t)) token left is = absurd (cc (is))
analyzes (create_index (index_on k i n o t u p x xs m c w e)) token left is = absurd (cc (is))
analyzes (query (ordered_select no_explain (select_from k o os f n a w) y v e)) token left is = absurd (cc (is))
analyzes (query (ordered_select (explain k) q y v e)) token left is = absurd (cc (is))
analyzes (query (ordered_select (explain_table p k a t b) q y v e)) token left is = absurd (cc (is))
analyzes (advise (advise_of p k n o c cs m x xs e)) token left is = absurd (cc (is))
analyzes (check p k x e) token left is = absurd (cc (is))
analyzes (use_plan p u k q y e) token left is = absurd (cc (is))
analyzes (grouped p unexplained k q) token left is = absurd (cc (is))
analyzes (grouped p (explained t) k q) token left is = absurd (cc (is))
analyzes (copy k n null) token left is = absurd (cc (is))
analyzes (sizes k n rows pages e) token left is = absurd (cc (is))
analyzes (column_statistics k n c d z m h e) token left is = absurd (cc (is))

-- the last of some tokens
abbrev last : Token → List Token → Token
last t [] = t
last t (u ∷ us) = last u us

last-is : (t u : Token) (us : List Token) → last t (us ++ u ∷ []) ≡ u
last-is t u [] = refl
last-is t u (v ∷ us) = last-is v u us

-- the last token of COPY is its `;`
stops : (k : CopyWords) (n : Ident) (null : Said) (text : List ℕ) (tokens before : List Token) (token : Token) → words_of (copy k n null) ≡ terminals text tokens → tokens ≡ before ++ token ∷ [] →
    token ≡ k.stop
stops k n null text tokens before token words is = sym (last-is token token before) ∙ ap (last token) (sym is ∙ sym (tokens-are (words_of (copy k n null)) text tokens words))

pub stop-at : (k : CopyWords) (n : Ident) (null : Said) (text : List ℕ) (tokens before : List Token) (token : Token) (end : ℕ) (from : List Terminal) → from ≡ terminals text tokens → from ≡ words_of (copy k n null) →
    tokens ≡ before ++ token ∷ [] → end ≡ token.end → end ≡ k.stop.end
stop-at k n null text tokens before token end from all is split at = at ∙ ap (λ (t : Token). t.end) (stops k n null text tokens before token (sym is ∙ all) split)

module _ (cat : Contents) (text : List ℕ) where
  -- a statement that means what is read
  means-by : (x : Statement) (m : Result Reading Fault) (r : Result Read Refusal) → ((v : Result Reading Fault) → v ≡ m → Means cat text x v) → HasNoLineFault text x → IsAsMeant Read Reading reading r m → ReadsAs cat text x r
  means-by x m (Ok v) on line reads = on (Ok (reading v)) (sym reads)
  means-by x m (Err (refusal.Fault f)) on line reads = on (Err f) (sym reads)
  means-by x m (Err refusal.Memory) on line reads = line

  -- a table that is read
  pub table-as : (x : Statement) (left : List Terminal) (r : Result Read Refusal) (t : CreatesTable x left) → IsAsMeant Read Reading reading r (bound_table (bytes_of t.name) (token_of t.name) (bound_all (defined_column t.column ∷ further t.columns))) →
      ReadsAs cat text x r
  table-as x left r t reads = subst (λ y. ReadsAs cat text y r) (sym t.is) (means-by (create_table t.create t.table t.name t.opening t.column t.columns t.closing t.ending) _ r (λ v same. same) tt reads)

  -- statistics that are read
  pub statistics-as : (x : Statement) (token : Token) (left : List Terminal) (r : Result Read Refusal) → words_of x ≡ t_name (free Statistics token) ∷ left →
      ((t k : Ident) (rows : Said) (b : Terminal) (pages : Said) (rest : List Terminal) → left ≡ t_name t ∷ words_of_sizes k rows b pages rest → IsAsMeant Read Reading reading r (stated_rows cat t rows pages)) →
      ((t : Ident) (m : Mark) (c : Ident) (a : Terminal) (d : Said) (b : Terminal) (n : Said) (cs : CommonPart) (h : Histogram) (rest : List Terminal) → ends_common rest ≡ true → ends_histogram rest ≡ true →
      left ≡ t_name t ∷ t_mark Dot m ∷ words_of_column c a d b n cs h rest → IsAsMeant Read Reading reading r (column_statistics_of cat t c d n (commons_of cs) (bounds_of h))) →
      ReadsAs cat text x r
  statistics-as (sizes k n rows pages e) token left r is table column =
      means-by (sizes k n rows pages e) _ r (λ v same. same) tt (table n (free Rows k.rows) rows (t_name (free Pages k.pages)) pages (words_of_ending e) (ap (drop 1) (sym is)))
  statistics-as (column_statistics k n c d z m h e) token left r is table column =
      means-by (column_statistics k n c d z m h e) _ r (λ v same. same) tt
      (column n k.dot c (t_name (free Distinct k.distinct)) d (t_name (free NullsWord k.nulls)) z m h (words_of_ending e) (ends-lists e).0 (ends-lists e).1 (ap (drop 1) (sym is)))
  statistics-as (create_table k t n o c cs m e) token left r is table column = absurd (cc (is))
  statistics-as (empty (semicolon t)) token left r is table column = absurd (cc (is))
  statistics-as (empty (text_end t)) token left r is table column = absurd (cc (is))
  statistics-as (create_index (index_on k i n o t u p x xs m c w e)) token left r is table column = absurd (cc (is))
  statistics-as (query (ordered_select no_explain (select_from k o os f n a w) y v e)) token left r is table column = absurd (cc (is))
  statistics-as (query (ordered_select (explain k) q y v e)) token left r is table column = absurd (cc (is))
  statistics-as (query (ordered_select (explain_table p k a t b) q y v e)) token left r is table column = absurd (cc (is))
  statistics-as (advise (advise_of p k n o c cs m x xs e)) token left r is table column = absurd (cc (is))
  statistics-as (check p k x e) token left r is table column = absurd (cc (is))
  statistics-as (use_plan p u k q y e) token left r is table column = absurd (cc (is))
  statistics-as (grouped p unexplained k q) token left r is table column = absurd (cc (is))
  statistics-as (grouped p (explained t) k q) token left r is table column = absurd (cc (is))
  statistics-as (copy k n null) token left r is table column = absurd (cc (is))
  statistics-as (analyze offered k n e) token left r is table column = absurd (cc (is))

  -- a table to be analyzed that is read
  pub analysis-as : (x : Statement) (token : Token) (left : List Terminal) (r : Result Read Refusal) → words_of x ≡ t_name (free Analyze token) ∷ left →
      ((n : Ident) (rest : List Terminal) → left ≡ t_name n ∷ rest → IsAsMeant Read Reading reading r (analysis cat n)) → ReadsAs cat text x r
  analysis-as (analyze offered k n e) token left r is table = means-by (analyze offered k n e) _ r (λ v same. same) tt (table n (words_of_ending e) (ap (drop 1) (sym is)))
  analysis-as (create_table k t n o c cs m e) token left r is table = absurd (cc (is))
  analysis-as (empty (semicolon t)) token left r is table = absurd (cc (is))
  analysis-as (empty (text_end t)) token left r is table = absurd (cc (is))
  analysis-as (create_index (index_on k i n o t u p x xs m c w e)) token left r is table = absurd (cc (is))
  analysis-as (query (ordered_select no_explain (select_from k o os f n a w) y v e)) token left r is table = absurd (cc (is))
  analysis-as (query (ordered_select (explain k) q y v e)) token left r is table = absurd (cc (is))
  analysis-as (query (ordered_select (explain_table p k a t b) q y v e)) token left r is table = absurd (cc (is))
  analysis-as (advise (advise_of p k n o c cs m x xs e)) token left r is table = absurd (cc (is))
  analysis-as (check p k x e) token left r is table = absurd (cc (is))
  analysis-as (use_plan p u k q y e) token left r is table = absurd (cc (is))
  analysis-as (grouped p unexplained k q) token left r is table = absurd (cc (is))
  analysis-as (grouped p (explained t) k q) token left r is table = absurd (cc (is))
  analysis-as (copy k n null) token left r is table = absurd (cc (is))
  analysis-as (sizes k n rows pages e) token left r is table = absurd (cc (is))
  analysis-as (column_statistics k n c d z m h e) token left r is table = absurd (cc (is))

  -- data that are read, behind a line without a fault
  pub data-as : (k : CopyWords) (n : Ident) (null : Said) (r : Result Read Refusal) (start : ℕ) → IsDataStart text k.stop.end (Ok start) →
      IsAsMeant Read Reading reading r (data_after (table_named cat (bytes_of n)) (token_of n) null.value null.token (Ok start)) → ReadsAs cat text (copy k n null) r
  data-as k n null (Ok v) start begins reads = (Ok start, begins, sym reads)
  data-as k n null (Err (refusal.Fault f)) start begins reads = (Ok start, begins, sym reads)
  data-as k n null (Err refusal.Memory) start begins reads = (start, begins)

  -- a statement that is read
  pub read-as : (tokens : List Token) (r : Result Read Refusal) → IsWhole text tokens → ((x : Statement) → words_of x ≡ terminals text tokens → ReadsAs cat text x r) → IfOk r (λ v. IsMeaning cat text tokens (Ok (reading v)))
  read-as tokens (Ok v) whole means =
      let (x, levels, words) = whole.statement in
      record { statement = x; spelled = record { words = words; limits = whole.within; levels = levels }; means = means x words }
  read-as tokens (Err e) whole means = tt

  -- a statement that is refused after its syntax
  pub refused-as : (tokens : List Token) (r : Result Read Refusal) → IsWhole text tokens → begins_ddl (terminals text tokens) ≡ true → ((x : Statement) → words_of x ≡ terminals text tokens → ReadsAs cat text x r) →
      IfErr r (IsDdlRefusal cat text tokens)
  refused-as tokens (Ok v) whole ddl means = tt
  refused-as tokens (Err (refusal.Fault f)) whole ddl means =
      let (x, levels, words) = whole.statement in
      rw ddl (inr (record { statement = x; spelled = record { words = words; limits = whole.within; levels = levels }; means = means x words }))
  refused-as tokens (Err refusal.Memory) whole ddl means =
      let (x, levels, words) = whole.statement in
      (ddl, record { statement = x; spelled = record { words = words; limits = whole.within; levels = levels }; line = means x words })

module _ (cat : Contents) (text : List ℕ) (tokens : List Token) where
  syntax-by : (f : Fault) (opens : Bool) → IsSyntaxRefusal text tokens opens (refusal.Fault f) → IsDdlFault cat text tokens f opens
  syntax-by f true is = inl is
  syntax-by f false is = is

  -- looking at the syntax takes no memory
  no-want : (opens : Bool) → IsSyntaxRefusal text tokens opens refusal.Memory → ⊥
  no-want true is = is
  no-want false is = is

  -- a fault of the syntax is the first one
  pub syntax-refused : (e : Refusal) → IsSyntaxRefusal text tokens (begins_ddl (terminals text tokens)) e → IsDdlRefusal cat text tokens e
  syntax-refused (refusal.Fault f) is = syntax-by f (begins_ddl (terminals text tokens)) is
  syntax-refused refusal.Memory is = absurd (no-want (begins_ddl (terminals text tokens)) is)
