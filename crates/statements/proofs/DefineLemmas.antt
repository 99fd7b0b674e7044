-- A definition that is read: what it does, or why it is refused.
use Rattle.std.proofs.Common.{◌≡◌, ◌≤◌, ◌+◌, ◌^◌, ℕ, Bool, true, false, cond, List, [], ◌∷◌, Vec, Global, length, slice_range, drop, get_or, Option, Some, None, Result, Ok, Err, All, refl, sym, arith, ap, subst, inl, inr}
use Rattle.std.specs.Str.{bytes_eq}
use Rattle.pg_base.specs.declared.numbers.ColNo.{ColNo}
use Rattle.pg_base.specs.declared.numbers.TableNo.{TableNo}
use Rattle.pg_base.specs.declared.faults.Code.TheVariants.{S17}
use Rattle.pg_base.specs.declared.faults.Fault.{Fault}
use Rattle.pg_base.specs.declared.limits.TheConstants.{MOST_COLUMNS, MOST_SCRIPT_BYTES}
use Rattle.pg_base.specs.declared.faults.Refusal.{Refusal}
use Rattle.pg_base.specs.declared.faults.Refusal.TheVariants as refusal
use Rattle.pg_value.specs.declared.columns.Column.{Column}
use Rattle.pg_value.specs.declared.value.SqlType.{SqlType}
use Rattle.sql_lex.specs.declared.tokens.Token.{Token}
use Rattle.sql_grammar.specs.Terminals.{Ident, Said, token_of}
use Rattle.sql_grammar.specs.Syntax.{Lit, Statement, empty, create_table, create_index, query, copy, sizes, column_statistics, analyze, advise, check, use_plan, grouped}
use Rattle.sql_grammar.specs.Faults.{terminals, bytes_of, fault_at}
use Rattle.sql_grammar.specs.CopyLine.{IsDataStart}
use Rattle.catalog.specs.Contents.{Contents, IsTable, table_at}
use Rattle.catalog.specs.Tables.{IsAcceptable, table_named}
use Rattle.catalog.specs.work.Entries.{statistics}
use Rattle.catalog.specs.Indexes.{type_at}
use Rattle.catalog.specs.Statistics.{AreAllowed, is_count}
use Rattle.catalog.specs.declared.statistics.ColumnStats.{ColumnStats}
use Rattle.ddl_reader.specs.declared.ddl.Ddl.{Ddl}
use Rattle.ddl_reader.specs.declared.ddl.Ddl.TheVariants.{Table, Rows, Column as Column', Copy, Analyze}
use Rattle.ddl_reader.specs.declared.ddl.Read.{Read}
use Rattle.ddl_reader.specs.work.Readings.{definition, reading}
use Rattle.ddl_reader.specs.declared.types.TypeWord.{TypeWord}
use Rattle.ddl_reader.specs.declared.types.TypeWord.TheVariants.{Fraction, Length, Plain, Sizes}
use Rattle.ddl_reader.specs.Types.{taken, type_bound, type_sized}
use Rattle.ddl_reader.specs.Columns.{Written, defined_column, BoundColumn, bound_column, bound_by, bound_all, further}
use Rattle.expr_reader.specs.Lists.{bound_each}
use Rattle.ddl_reader.specs.Statistics.{CommonWords, common_value, table_of_name, column_of_name, stated_rows, statistics_reading, column_statistics_of, commons_of, bounds_of, analysis}
use Rattle.expr_reader.specs.Literals.{typed_value}
use Rattle.ddl_reader.specs.Tables.{table, sizes_for, statistics_for, data_for, analysis_of, Reading, table_reading, limited_columns, bound_table, data_for_named, data_after}
use Rattle.pg_value.specs.Fields.{null_text}
use Rattle.ddl_reader.specs.work.Soundness.{AreSoundSizes, AreSoundStatistics, IsSound, IsSoundTable}
use Rattle.ddl_reader.specs.Block.{IsBlockEnd}
use Rattle.ddl_reader.specs.Statements.{Means}
use Rattle.ddl_reader.specs.work.Statements.{begins_ddl, IsMeaning, IsDdlFault, IsDdlRefusal}
use Rattle.reply_text.specs.Tells.{IsFieldOf}
use Rattle.heap.specs.Loading.{loaded, records_of}
use Rattle.heap.specs.Stored.{Stored}
use Rattle.sql_query.specs.Worlds.{World, stored_at}
use Rattle.statements.specs.declared.end.End.{End}
use Rattle.statements.specs.declared.end.End.TheVariants as ends
use Rattle.store.specs.Actions.{Action, after, make, size, describe, fill, gather}
use Rattle.statements.specs.work.Ending.{end_of_refusal}
use Rattle.statements.specs.Faults.{IsRefused, IsMeaningFault, IsFaultOver, in_syntax, in_meaning}
use Rattle.sql_lex.specs.Ends.{end_of}
use Rattle.statements.specs.Accepted.{Carries, Does}
use Rattle.store.specs.Kept.{load_looks}
use Rattle.statements.specs.Replies.{IsReply, silent}
use Rattle.statements.specs.work.Steps.{IsCarrying, IsDefined, Refuses, RefusesData, RefusesDefinition}
use Rattle.statements.proofs.PlainLemmas.{IsPlain, column-name-plain, each-plain, next-plain, plain-field, table-name-plain, typed-plain}

-- faults of words, of syntax and of names are in no record of data
taken-plain : (fits : Bool) (t : SqlType) (n : Said) → IsPlain (taken fits t n)
taken-plain true t n = tt
taken-plain false t n = refl

digits-plain : (fits : Bool) (scale : Bool) (t : SqlType) (p s : Said) → IsPlain (cond fits (taken scale t s) (Err (fault_at S17 p.token)))
digits-plain true scale t p s = taken-plain scale t s
digits-plain false scale t p s = refl

sized-plain : (token : Token) (word : TypeWord) (ns : List Said) → IsPlain (type_sized token word ns)
sized-plain token (Plain t) [] = tt
sized-plain token Length [] = tt
sized-plain token (Fraction t) [] = tt
sized-plain token Sizes [] = refl
sized-plain token Length (n ∷ []) = taken-plain _ _ n
sized-plain token (Fraction t) (n ∷ []) = taken-plain _ t n
sized-plain token Sizes (p ∷ []) = taken-plain _ _ p
sized-plain token Sizes (p ∷ s ∷ []) = digits-plain _ _ _ p s
sized-plain token word (n ∷ ns) = refl

word-plain : (token : Token) (word : Option TypeWord) (ns : List Said) → IsPlain (type_bound token word ns)
word-plain token None ns = refl
word-plain token (Some word) ns = sized-plain token word ns

type-plain : (r : Result SqlType Fault) (w : Written) → IsPlain r → IsPlain (bound_by r w)
type-plain (Err f) w plain = plain
type-plain (Ok t) w plain = tt

columns-plain : (ws : List Written) → IsPlain (bound_all ws)
columns-plain ws = each-plain bound_column ws (λ w. type-plain (type_bound w.kind.at w.kind.word w.kind.numbers) w (word-plain w.kind.at w.kind.word w.kind.numbers))

limited-plain : (m : Reading) (left : List BoundColumn) → IsPlain (limited_columns m left)
limited-plain m [] = tt
limited-plain m (b ∷ left) = refl

table-plain : (name : List ℕ) (token : Token) (m : Result (List BoundColumn) Fault) → IsPlain m → IsPlain (bound_table name token m)
table-plain name token (Err f) none = none
table-plain name token (Ok bs) none = limited-plain (table_reading name token bs) (drop MOST_COLUMNS bs)

either-plain : (b : Bool) (m : Reading) (f : Fault) → f.rec ≡ 0 → IsPlain (cond b (Ok m) (Err f))
either-plain true m f none = tt
either-plain false m f none = none

data-plain : (o : Option TableNo) (name_at null_at : Token) (null : List ℕ) (start : ℕ) → IsPlain (data_for_named o name_at null null_at start)
data-plain None name_at null_at null start = refl
data-plain (Some t) name_at null_at null start = either-plain (bytes_eq null null_text) _ _ refl

after-plain : (text : List ℕ) (end : ℕ) (o : Option TableNo) (name_at null_at : Token) (null : List ℕ) (start : Result ℕ Fault) → IsDataStart text end start → IsPlain (data_after o name_at null null_at start)
after-plain text end o name_at null_at null (Err f) begins = ap (λ (g : Fault). g.rec) begins.1
after-plain text end o name_at null_at null (Ok start) begins = data-plain o name_at null_at null start

-- the names and literals of STATISTICS
sizes-plain : (cat : Contents) (n : Ident) (rows pages : Said) → IsPlain (stated_rows cat n rows pages)
sizes-plain cat n rows pages = next-plain (table_of_name cat n) _ (table-name-plain cat n) (λ t. tt)

analysis-plain : (cat : Contents) (n : Ident) → IsPlain (analysis cat n)
analysis-plain cat n = next-plain (table_of_name cat n) _ (table-name-plain cat n) (λ t. tt)

common-plain : (t : SqlType) (w : CommonWords) → IsPlain (common_value t w)
common-plain t w = next-plain (typed_value t w.0) _ (typed-plain t w.0) (λ v. tt)

values-plain : (t : SqlType) (of : TableNo) (col : ColNo) (distinct nulls : Said) (commons : List CommonWords) (bounds : List Lit) → IsPlain (statistics_reading t of col distinct nulls commons bounds)
values-plain t of col distinct nulls commons bounds =
    next-plain (bound_each (common_value t) commons) _ (each-plain (common_value t) commons (common-plain t))
    (λ values. next-plain (bound_each (typed_value t) bounds) _ (each-plain (typed_value t) bounds (typed-plain t)) (λ limits. tt))

statistics-plain : (cat : Contents) (n c : Ident) (distinct nulls : Said) (commons : List CommonWords) (bounds : List Lit) → IsPlain (column_statistics_of cat n c distinct nulls commons bounds)
statistics-plain cat n c distinct nulls commons bounds =
    next-plain (table_of_name cat n) _ (table-name-plain cat n)
    (λ t. next-plain (column_of_name cat t c) _ (column-name-plain cat t c) (λ col. values-plain (type_at (table_at cat t).columns col) t col distinct nulls commons bounds))

means-plain : (cat : Contents) (text : List ℕ) (x : Statement) (r : Result Reading Fault) → Means cat text x r → IsPlain r
means-plain cat text (empty e) r means = absurd means
means-plain cat text (create_index x) r means = absurd means
means-plain cat text (query x) r means = absurd means
means-plain cat text (advise x) r means = absurd means
means-plain cat text (check p k x s) r means = absurd means
means-plain cat text (use_plan p k l q y s) r means = absurd means
means-plain cat text (grouped p k l q) r means = absurd means
means-plain cat text (create_table k t n o c cs m e) r means = subst IsPlain (sym means) (table-plain (bytes_of n) (token_of n) (bound_all (defined_column c ∷ further cs)) (columns-plain (defined_column c ∷ further cs)))
means-plain cat text (sizes k n r p e) m means = subst IsPlain (sym means) (sizes-plain cat n r p)
means-plain cat text (column_statistics k n c d nulls commons bounds e) r means = subst IsPlain (sym means) (statistics-plain cat n c d nulls (commons_of commons) (bounds_of bounds))
means-plain cat text (analyze p k n e) r means = subst IsPlain (sym means) (analysis-plain cat n)
means-plain cat text (copy k n null) r (start, begins, means) = subst IsPlain (sym means) (after-plain text k.stop.end (table_named cat (bytes_of n)) (token_of n) null.token null.value start begins)

module _ (w : World) (text : List ℕ) (tokens : List Token) where
  names-fault : (x : Statement) (f : Fault) → Means w.contents text x (Err f) → IsMeaningFault w text tokens x f
  names-fault (empty e) f means = absurd means
  names-fault (create_index x) f means = absurd means
  names-fault (query x) f means = absurd means
  names-fault (advise x) f means = absurd means
  names-fault (check p k x s) f means = absurd means
  names-fault (use_plan p k l q y s) f means = absurd means
  names-fault (grouped p k l q) f means = absurd means
  names-fault (create_table k t n o c cs m e) f means = inl means
  names-fault (sizes k n r p e) f means = inl means
  names-fault (column_statistics k n c d nulls commons bounds e) f means = inl means
  names-fault (copy k n null) f means = inl means
  names-fault (analyze p k n e) f means = inl means

  carried-fault : (x : Statement) (r : Reading) (f : Fault) → Means w.contents text x (Ok r) → IsRefused w text r.definition r.at f → IsMeaningFault w text tokens x f
  carried-fault (empty e) r f means because = absurd means
  carried-fault (create_index x) r f means because = absurd means
  carried-fault (query x) r f means because = absurd means
  carried-fault (advise x) r f means because = absurd means
  carried-fault (check p k x s) r f means because = absurd means
  carried-fault (use_plan p k l q y s) r f means because = absurd means
  carried-fault (grouped p k l q) r f means because = absurd means
  carried-fault (create_table k t n o c cs m e) r f means because = inr (r, means, because)
  carried-fault (sizes k n m p e) r f means because = inr (r, means, because)
  carried-fault (column_statistics k n c d nulls commons bounds e) r f means because = inr (r, means, because)
  carried-fault (copy k n null) r f means because = inr (r, means, because)
  carried-fault (analyze p k n e) r f means because = inr (r, means, because)

  does : (x : Statement) (r : Reading) (action : Action) (next : ℕ) → Means w.contents text x (Ok r) → Carries w text tokens r.definition action next → Does w text tokens x action next
  does (empty e) r action next means carries = absurd means
  does (create_index x) r action next means carries = absurd means
  does (query x) r action next means carries = absurd means
  does (advise x) r action next means carries = absurd means
  does (check p k x s) r action next means carries = absurd means
  does (use_plan p k l q y s) r action next means carries = absurd means
  does (grouped p k l q) r action next means carries = absurd means
  does (create_table k t n o c cs m e) r action next means carries = (r, means, carries)
  does (sizes k n m p e) r action next means carries = (r, means, carries)
  does (column_statistics k n c d nulls commons bounds e) r action next means carries = (r, means, carries)
  does (copy k n null) r action next means carries = (r, means, carries)
  does (analyze p k n e) r action next means carries = (r, means, carries)

  refused-by : (f : Fault) → IsDdlFault w.contents text tokens f true → IsFaultOver w text tokens f × IsFieldOf w.contents f
  refused-by f (inl first) = (in_syntax first, plain-field w.contents f (ap (λ (g : Fault). g.rec) first.place))
  refused-by f (inr m) =
      (in_meaning m.statement m.spelled (names-fault m.statement f m.means), plain-field w.contents f (means-plain w.contents text m.statement (Err f) m.means))

  -- what the reader refuses
  pub read-refused : (looked : ℕ) (r : Refusal) → begins_ddl (terminals text tokens) ≡ true → IsDdlRefusal w.contents text tokens r → Refuses (end_of_refusal r) w text tokens looked looked
  read-refused looked (refusal.Fault f) opens h = let (fault, field) = refused-by f (subst (IsDdlFault w.contents text tokens f) opens h) in (fault, field, refl)
  read-refused looked refusal.Memory opens h = inl refl

  -- what is read and not carried out
  pub definition-refused : (looked looked' : ℕ) (r : Reading) (e : End) → looked' ≡ looked → IsMeaning w.contents text tokens (Ok r) → RefusesDefinition e w text r.definition r.at → Refuses e w text tokens looked looked'
  definition-refused looked looked' r (ends.Fault f) same m h = (in_meaning m.statement m.spelled (carried-fault m.statement r f m.means h.0), h.1, same)
  definition-refused looked looked' r ends.Write same m h = h
  definition-refused looked looked' r ends.Memory same m h = inl same

  -- what is carried out
  pub carrying-as : (looked looked' : ℕ) (r : Reading) (action : Action) (next looks : ℕ) → IsMeaning w.contents text tokens (Ok r) → Carries w text tokens r.definition action next → IsReply w action (silent looks) → looked' ≤ looked + looks →
      IsCarrying w text tokens action next looked looked'
  carrying-as looked looked' r action next looks m carries reply within =
      record { read = record { statement = m.statement; spelled = m.spelled; does = does m.statement r action next m.means carries }; looks = looks; reply = reply; within = within }

  -- what is carried out without a look
  pub defined-as : (looked : ℕ) (w' : World) (r : Reading) (action : Action) (next : ℕ) → IsMeaning w.contents text tokens (Ok r) → Carries w text tokens r.definition action next → IsReply w action (silent 0) → w' ≡ after w action →
      IsDefined w w' text tokens next looked looked
  defined-as looked w' r action next m carries reply is = (action, carrying-as looked looked r action next 0 m carries reply (omega arith), is)

-- why a new table is refused is said without a text
table-refused : (e : End) (w : World) (text name : List ℕ) (names : List (List ℕ)) (columns : List Column) (at : List ℕ) → RefusesDefinition e w [] (table name names columns) at → RefusesDefinition e w text (table name names columns) at
table-refused (ends.Fault f) w text name names columns at h = h
table-refused ends.Write w text name names columns at h = h
table-refused ends.Memory w text name names columns at h = tt

-- a reading by its definition
seen : (v : Read) (d : Ddl) → v.ddl ≡ d → reading v ≡ record { definition = definition d; at = v.at.items }
seen v d is = ap (λ (x : Ddl). record { definition = definition x; at = v.at.items }) is

pub low-places : (text at places : List ℕ) → places ≡ at → length text ≤ MOST_SCRIPT_BYTES → All (λ a. a ≤ length text) at → All (λ a. a ≤ 2 ^ 31) places
low-places text at places same short low k d lt =
    let here = low k d (omega (arith, lt, ap length same)) in
    let is = ap (λ (l : List ℕ). get_or l k d) same in
    omega (arith, here, is, short)

module _ (w : World) (text : List ℕ) (tokens : List Token) (v : Read) (looked : ℕ) where
  -- a new table that was read
  module _ (name : List ℕ) (names : Vec (List ℕ) Global) (columns : List Column) (is : v.ddl ≡ Table name names columns) where
    pub sound-table : IsSound w.contents text (reading v) → IsSoundTable text name names.items columns v.at.items
    sound-table sound = subst (IsSound w.contents text) (seen v (Table name names columns) is) sound

    module _ (m : IsMeaning w.contents text tokens (Ok (reading v))) where
      table-means : IsMeaning w.contents text tokens (Ok (record { definition = table name names.items columns; at = v.at.items }))
      table-means = subst (λ (r : Reading). IsMeaning w.contents text tokens (Ok r)) (seen v (Table name names columns) is) m

      pub table-told : (at : List ℕ) → at ≡ v.at.items → (e : End) → RefusesDefinition e w [] (table name names.items columns) at → Refuses e w text tokens looked looked
      table-told at same e h =
          definition-refused w text tokens looked looked _ e refl table-means
          (table-refused e w text name names.items columns v.at.items (subst (RefusesDefinition e w [] (table name names.items columns)) same h))

      pub table-defined : (w' : World) (next : ℕ) → IsAcceptable w.contents name names.items → next ≡ end_of tokens → w' ≡ after w (make name names.items columns) → IsDefined w w' text tokens next looked looked
      table-defined w' next accepted at made = defined-as w text tokens looked w' _ (make name names.items columns) next table-means (accepted, refl, at) refl made

  -- data that were read
  module _ (t : TableNo) (start : ℕ) (is : v.ddl ≡ Copy t start) where
    pub sound-data : IsSound w.contents text (reading v) → IsTable w.contents t × (start ≤ length text)
    sound-data sound = subst (IsSound w.contents text) (seen v (Copy t start) is) sound

    module _ (m : IsMeaning w.contents text tokens (Ok (reading v))) where
      data-means : IsMeaning w.contents text tokens (Ok (record { definition = data_for t start; at = v.at.items }))
      data-means = subst (λ (r : Reading). IsMeaning w.contents text tokens (Ok r)) (seen v (Copy t start) is) m

      data-carrying : (looked' next end : ℕ) (s : Stored) → IsBlockEnd text start end next → loaded (stored_at w t) (records_of (slice_range text start end)) ≡ Ok s → looked' ≤ looked + load_looks w.contents t (stored_at w t) s →
          IsCarrying w text tokens (fill t s) next looked looked'
      data-carrying looked' next end s block ok within = carrying-as w text tokens looked looked' _ (fill t s) next _ data-means (end, s, block, ok, refl) refl within

      pub data-told : (e : End) (looked' : ℕ) → RefusesData e w text t start looked looked' → Refuses e w text tokens looked looked'
      data-told (ends.Fault f) looked' (h, same) = definition-refused w text tokens looked looked' _ (ends.Fault f) same data-means h
      data-told ends.Write looked' h = h
      data-told ends.Memory looked' (inl same) = inl same
      data-told ends.Memory looked' (inr (end, next, s, block, ok, within)) = inr (fill t s, next, data-carrying looked' next end s block ok within)

      pub data-defined : (w' : World) (looked' next end : ℕ) (s : Stored) → IsBlockEnd text start end next → loaded (stored_at w t) (records_of (slice_range text start end)) ≡ Ok s → w' ≡ after w (fill t s) →
          looked' ≡ looked + load_looks w.contents t (stored_at w t) s → IsDefined w w' text tokens next looked looked'
      data-defined w' looked' next end s block ok filled looks = (fill t s, data-carrying looked' next end s block ok (omega (arith, looks)), filled)

  -- the sizes of a table that were read
  module _ (t : TableNo) (rows pages : ℕ) (is : v.ddl ≡ Rows t rows pages) where
    pub sound-sizes : IsSound w.contents text (reading v) → AreSoundSizes w.contents text t v.at.items
    sound-sizes sound = subst (IsSound w.contents text) (seen v (Rows t rows pages) is) sound

    module _ (m : IsMeaning w.contents text tokens (Ok (reading v))) where
      sizes-means : IsMeaning w.contents text tokens (Ok (record { definition = sizes_for t rows pages; at = v.at.items }))
      sizes-means = subst (λ (r : Reading). IsMeaning w.contents text tokens (Ok r)) (seen v (Rows t rows pages) is) m

      pub sizes-told : (at : List ℕ) → at ≡ v.at.items → (e : End) → RefusesDefinition e w text (sizes_for t rows pages) at → Refuses e w text tokens looked looked
      sizes-told at same e h = definition-refused w text tokens looked looked _ e refl sizes-means (subst (RefusesDefinition e w text (sizes_for t rows pages)) same h)

      pub sizes-defined : (w' : World) (next : ℕ) → is_count rows ≡ true → is_count pages ≡ true → next ≡ end_of tokens → w' ≡ after w (size t rows pages) → IsDefined w w' text tokens next looked looked
      sizes-defined w' next some more at made = defined-as w text tokens looked w' _ (size t rows pages) next sizes-means (some, more, refl, at) refl made

  -- the statistics of a column that were read
  module _ (t : TableNo) (col : ColNo) (stats : ColumnStats) (is : v.ddl ≡ Column' t col stats) where
    pub sound-statistics : IsSound w.contents text (reading v) → AreSoundStatistics w.contents text t col (statistics stats) v.at.items
    sound-statistics sound = subst (IsSound w.contents text) (seen v (Column' t col stats) is) sound

    module _ (m : IsMeaning w.contents text tokens (Ok (reading v))) where
      statistics-means : IsMeaning w.contents text tokens (Ok (record { definition = statistics_for t col (statistics stats); at = v.at.items }))
      statistics-means = subst (λ (r : Reading). IsMeaning w.contents text tokens (Ok r)) (seen v (Column' t col stats) is) m

      pub statistics-told : (at : List ℕ) → at ≡ v.at.items → (e : End) → RefusesDefinition e w text (statistics_for t col (statistics stats)) at → Refuses e w text tokens looked looked
      statistics-told at same e h = definition-refused w text tokens looked looked _ e refl statistics-means (subst (RefusesDefinition e w text (statistics_for t col (statistics stats))) same h)

      pub statistics-defined : (w' : World) (next : ℕ) → AreAllowed (statistics stats) → next ≡ end_of tokens → w' ≡ after w (describe t col (statistics stats)) → IsDefined w w' text tokens next looked looked
      statistics-defined w' next allowed at made = defined-as w text tokens looked w' _ (describe t col (statistics stats)) next statistics-means (allowed, refl, at) refl made

  -- a table to be analyzed that was read
  module _ (t : TableNo) (is : v.ddl ≡ Analyze t) where
    pub sound-analysis : IsSound w.contents text (reading v) → IsTable w.contents t
    sound-analysis sound = subst (IsSound w.contents text) (seen v (Analyze t) is) sound

    module _ (m : IsMeaning w.contents text tokens (Ok (reading v))) where
      analysis-means : IsMeaning w.contents text tokens (Ok (record { definition = analysis_of t; at = v.at.items }))
      analysis-means = subst (λ (r : Reading). IsMeaning w.contents text tokens (Ok r)) (seen v (Analyze t) is) m

      analysis-carrying : (looked' next : ℕ) → next ≡ end_of tokens → looked' ≤ looked + length (stored_at w t).rows → IsCarrying w text tokens (gather t) next looked looked'
      analysis-carrying looked' next at within = carrying-as w text tokens looked looked' _ (gather t) next (length (stored_at w t).rows) analysis-means (refl, at) refl within

      pub analysis-told : (e : End) (looked' : ℕ) → e ≡ ends.Memory → looked' ≤ looked + length (stored_at w t).rows → Refuses e w text tokens looked looked'
      analysis-told e looked' is within =
          subst (λ (d : End). Refuses d w text tokens looked looked') (sym is) (inr (gather t, end_of tokens, analysis-carrying looked' (end_of tokens) refl within))

      pub analysis-defined : (w' : World) (looked' next : ℕ) → next ≡ end_of tokens → w' ≡ after w (gather t) → looked' ≡ looked + length (stored_at w t).rows → IsDefined w w' text tokens next looked looked'
      analysis-defined w' looked' next at gathered looks = (gather t, analysis-carrying looked' next at (omega (arith, looks)), gathered)
