-- Where statements end.
use Rattle.std.proofs.Common.{◌≡◌, ℕ, ◌-◌, ◌<◌, ◌≤◌, inl, inr, Bool, true, false, List, [], ◌∷◌, ◌++◌, length, drop, map, suc, refl, sym, ap, ◌∙◌, arith, subst, cond, Contains, MatchBool, slice_range, Some, None, Option, Result, Ok, Err}
use Rattle.std.specs.List.{list_all}
use Rattle.std.specs.Str.{bytes_eq}
use Rattle.std.proofs.lemmas.Bool.{cases_lt}
use Rattle.std.proofs.lemmas.List.{append_assoc, length-drop, length-take, map-append, nil_from_length}
use Rattle.std.proofs.lemmas.Option.{slice_get_within}
use Rattle.std.proofs.lemmas.List.Elements.{All-contains}
use Rattle.std.proofs.lemmas.List.Sums.{AllPass-from_list_all}
use Rattle.pg_base.specs.declared.numbers.ColNo.{ColNo}
use Rattle.pg_base.specs.declared.numbers.TableNo.{TableNo}
use Rattle.pg_value.specs.declared.value.SqlType.{SqlType}
use Rattle.pg_base.specs.declared.faults.Code.TheVariants.{S17}
use Rattle.pg_base.specs.declared.faults.Fault.{Fault}
use Rattle.pg_base.specs.declared.limits.TheConstants.{MOST_COLUMNS}
use Rattle.pg_value.specs.declared.columns.Column.{Column}
use Rattle.sql_lex.specs.declared.tokens.Kind.{Kind}
use Rattle.sql_lex.specs.declared.tokens.Kind.TheVariants as kinds
use Rattle.sql_lex.specs.declared.tokens.Token.{Token}
use Rattle.sql_lex.specs.Forms.{IsToken, symbols}
use Rattle.sql_lex.specs.Words.{AreWords, IsNext, is_last}
use Rattle.sql_grammar.specs.Terminals.{Ident, Said, Terminal, t_semicolon, token_of}
use Rattle.sql_grammar.specs.Syntax.{CopyWords, IsOffered, OrderBy, Select, WindowedSelect, windowed_select, no_limit, no_offset, window, Lit, Statement, empty, create_table, create_index, query, copy, sizes, column_statistics, analyze, advise, check, use_plan, grouped}
use Rattle.sql_grammar.specs.work.Unique.{token_in}
use Rattle.sql_grammar.specs.Words.{words_of, words_of_order, words_of_select, words_of_windowed}
use Rattle.sql_grammar.specs.declared.offered.TheConstants.{READS_CHECK, READS_PLAN}
use Rattle.sql_grammar.specs.Faults.{bytes_of, fault_at, terminals}
use Rattle.sql_grammar.specs.CopyLine.{IsDataStart, after_blanks}
use Rattle.catalog.specs.Contents.{Contents, table_at}
use Rattle.catalog.specs.Indexes.{type_at}
use Rattle.catalog.specs.Tables.{table_named}
use Rattle.expr_reader.specs.Conditions.{next as following}
use Rattle.expr_reader.specs.Literals.{typed_value}
use Rattle.expr_reader.specs.Lists.{bound_each}
use Rattle.ddl_reader.specs.Statistics.{CommonWords, common_value, table_of_name, column_of_name, stated_rows, statistics_reading, column_statistics_of, commons_of, bounds_of, analysis}
use Rattle.sql_grammar.proofs.ExprTrees.{tokens-are}
use Rattle.ddl_reader.specs.Columns.{BoundColumn, bound_all, defined_column, further}
use Rattle.ddl_reader.specs.Tables.{Definition, table, sizes_for, statistics_for, data_for, analysis_of, Reading, data_after, limited_columns, bound_table, table_reading}
use Rattle.pg_value.specs.Fields.{null_text}
use Rattle.sql_query.specs.Queries.{Query}
use Rattle.sql_query.specs.Worlds.{World}
use Rattle.store.specs.Actions.{Action, follow, verify}
use Rattle.statements.proofs.BlockLemmas.{block-within}
use Rattle.sql_lex.specs.Ends.{token_at, end_of}
use Rattle.statements.specs.Accepted.{Carries, Does, IsReadOver, Takes}

-- some byte, tested by whether the list is empty
abbrev some : List ℕ → Bool
some [] = false
some (b ∷ bs) = true

symbols-some : list_all some symbols ≡ true
symbols-some = refl

no-symbol : Contains symbols [] → ⊥
no-symbol one = let is : some [] ≡ true = All-contains (λ x. some x ≡ true) symbols [] (AllPass-from_list_all some symbols symbols-some) one in cc

-- only the text's end is a token without a byte
at-end : (kind : Kind) (bytes rest : List ℕ) → bytes ≡ [] → IsToken kind bytes rest → rest ≡ []
at-end kinds.Word [] rest e h = absurd h.0
at-end kinds.Number [] rest e h = absurd h.0
at-end kinds.Quoted [] rest e h = absurd (let same = h.0.1 in cc)
at-end kinds.Symbol [] rest e h = absurd (no-symbol h.0)
at-end kinds.End [] rest e h = h.1
at-end kind (b ∷ bytes) rest e h = absurd (let P : b ∷ bytes ≡ [] = e in cc)

-- a token ends behind the place from which it is next
ahead-token : (text : List ℕ) (from : ℕ) (t : Token) → IsNext text from t → from < length text → from < t.end
ahead-token text from t is within = elim (cases_lt from t.end) [
  | inl lt ↦ lt
  | inr le ↦
      let none : slice_range text t.start t.end ≡ [] = nil_from_length _ (length-take (t.end - t.start) (drop t.start text) ∙ omega (arith, le, is.order, is.gap.order)) in
      let rest = at-end t.kind _ _ none is.form in
      absurd (omega (arith, le, within, sym (length-drop t.end text) ∙ ap length rest))
]

-- the last token of some, behind another
last-behind : (t u : Token) (ts : List Token) → end_of (t ∷ u ∷ ts) ≡ end_of (u ∷ ts)
last-behind t u ts =
    ap (λ (k : ℕ). (token_at (t ∷ u ∷ ts) k).end) (let e : length (t ∷ u ∷ ts) - 1 ≡ suc (length ts) = omega arith in e) ∙
    sym (ap (λ (k : ℕ). (token_at (u ∷ ts) k).end) (let e : length (u ∷ ts) - 1 ≡ length ts = omega arith in e))

-- the words of a statement end inside the text, behind the place at which they begin
pub record EndsBehind (text : List ℕ) (from end : ℕ) : Type 0 where
  pub behind : from ≤ end
  pub ahead : from < length text → from < end
  pub inside : end ≤ length text

one-token : (text : List ℕ) (from : ℕ) (t : Token) → IsNext text from t → EndsBehind text from t.end
one-token text from t is = record { behind = omega (arith, is.gap.order, is.order); ahead = ahead-token text from t is; inside = is.within }

behind-more : (text : List ℕ) (from mid end : ℕ) → EndsBehind text from mid → EndsBehind text mid end → EndsBehind text from end
behind-more text from mid end first second = record {
  behind = omega (arith, first.behind, second.behind);
  ahead = λ within. omega (arith, first.ahead within, second.behind);
  inside = second.inside;
}

ends-behind-by : (text : List ℕ) (from : ℕ) (t : Token) (ts : List Token) (b : Bool) → ((from : ℕ) → AreWords text from ts → EndsBehind text from (end_of ts)) →
    IsNext text from t → MatchBool b (ts ≡ []) (AreWords text t.end ts) → EndsBehind text from (end_of (t ∷ ts))
ends-behind-by text from t [] true more is w = one-token text from t is
ends-behind-by text from t [] false more is w = absurd w
ends-behind-by text from t (u ∷ ts) true more is w = absurd (let P : u ∷ ts ≡ [] = w in cc)
ends-behind-by text from t (u ∷ ts) false more is w =
    let P : ℕ → Type 0 = λ n. EndsBehind text from n in
    subst P (sym (last-behind t u ts)) (behind-more text from t.end (end_of (u ∷ ts)) (one-token text from t is) (more t.end w))

pub ends-behind : (text : List ℕ) (from : ℕ) (tokens : List Token) → AreWords text from tokens → EndsBehind text from (end_of tokens)
ends-behind text from [] w = absurd w
ends-behind text from (t ∷ ts) w = ends-behind-by text from t ts (is_last text t) (λ f. ends-behind text f ts) w.0 w.1

-- data begin behind the statement, inside the text
pub start-behind : (text : List ℕ) (from start : ℕ) → IsDataStart text from (Ok start) → (from < start) × (start ≤ length text)
start-behind text from start is = (omega (arith, is.1), omega (arith, is.1, slice_get_within text (after_blanks text from) 10 is.0))

carried-table : (w : World) (text : List ℕ) (tokens : List Token) (d : Definition) (action : Action) (next : ℕ) (name : List ℕ) (names : List (List ℕ)) (columns : List Column) →
    d ≡ table name names columns → Carries w text tokens d action next → next ≡ end_of tokens
carried-table w text tokens (table n ns cs) action next name names columns e c = c.2
carried-table w text tokens (sizes_for t rows pages) action next name names columns e c = cc
carried-table w text tokens (statistics_for t col s) action next name names columns e c = cc
carried-table w text tokens (data_for t start) action next name names columns e c = cc
carried-table w text tokens (analysis_of t) action next name names columns e c = cc

carried-data : (w : World) (text : List ℕ) (tokens : List Token) (d : Definition) (action : Action) (next : ℕ) (t : TableNo) (start : ℕ) →
    d ≡ data_for t start → start ≤ length text → Carries w text tokens d action next → (start ≤ next) × (next ≤ length text)
carried-data w text tokens (table n ns cs) action next t start e within c = cc
carried-data w text tokens (sizes_for u rows pages) action next t start e within c = cc
carried-data w text tokens (statistics_for u col s) action next t start e within c = cc
carried-data w text tokens (analysis_of u) action next t start e within c = cc
carried-data w text tokens (data_for u from) action next t start e within c =
    let same : from ≡ start = cc in
    let P : ℕ → Type 0 = λ s. (s ≤ next) × (next ≤ length text) in
    let lies = block-within text from c.0 next (omega (arith, same, within)) c.2 in
    subst P same (omega (arith, lies.order, lies.end_order), lies.within)

is-table : (name : List ℕ) (token : Token) (bs : List BoundColumn) (more : List BoundColumn) (r : Reading) → Ok r ≡ limited_columns (table_reading name token bs) more →
    r.definition ≡ table name (map (λ b. b.name) bs) (map (λ b. b.column) bs)
is-table name token bs [] r e = let same : r ≡ table_reading name token bs = cc in ap (λ (x : Reading). x.definition) same
is-table name token bs (b ∷ more) r e = cc

table-behind : (w : World) (text : List ℕ) (tokens : List Token) (action : Action) (next : ℕ) (name : List ℕ) (token : Token) (bound : Result (List BoundColumn) Fault) (r : Reading) →
    Ok r ≡ bound_table name token bound → Carries w text tokens r.definition action next → next ≡ end_of tokens
table-behind w text tokens action next name token (Err f) r e c = cc
table-behind w text tokens action next name token (Ok bs) r e c =
    carried-table w text tokens r.definition action next name _ _ (is-table name token bs (drop MOST_COLUMNS bs) r e) c

is-data : (t : Option TableNo) (name null_at : Token) (null : List ℕ) (same : Bool) (start : ℕ) (r : Reading) → (u : TableNo) →
    Ok r ≡ cond same (Ok (record { definition = data_for u start; at = [] })) (Err (fault_at S17 null_at)) → r.definition ≡ data_for u start
is-data t name null_at null true start r u e = let is : r ≡ record { definition = data_for u start; at = [] } = cc in ap (λ (x : Reading). x.definition) is
is-data t name null_at null false start r u e = cc

data-behind : (w : World) (text : List ℕ) (tokens : List Token) (action : Action) (next from : ℕ) (t : Option TableNo) (name null_at : Token) (null : List ℕ) (start : Result ℕ Fault) (r : Reading) →
    IsDataStart text from start → Ok r ≡ data_after t name null null_at start → Carries w text tokens r.definition action next → (from < next) × (next ≤ length text)
data-behind w text tokens action next from t name null_at null (Err f) r is e c = cc
data-behind w text tokens action next from None name null_at null (Ok start) r is e c = cc
data-behind w text tokens action next from (Some u) name null_at null (Ok start) r is e c =
    let begins = start-behind text from start is in
    let ends = carried-data w text tokens r.definition action next u start (is-data (Some u) name null_at null (bytes_eq null null_text) start r u e) begins.1 c in
    (omega (arith, begins.0, ends.0), ends.1)

-- a reading whose statement ends with its last token
abbrev EndsLast : World → List ℕ → List Token → Result Reading Fault → Type 0
EndsLast w text tokens (Ok r) = (action : Action) (next : ℕ) → Carries w text tokens r.definition action next → next ≡ end_of tokens
EndsLast w text tokens (Err f) = Unit {0}

module _ (w : World) (text : List ℕ) (tokens : List Token) where
  next-last : {A : Type 0} (r : Result A Fault) (more : A → Result Reading Fault) → ((x : A) → EndsLast w text tokens (more x)) → EndsLast w text tokens (following r more)
  next-last (Ok x) more h = h x
  next-last (Err f) more h = tt

  sizes-last : (c : Contents) (n : Ident) (rows pages : Said) → EndsLast w text tokens (stated_rows c n rows pages)
  sizes-last c n rows pages = next-last (table_of_name c n) _ (λ t action next carried. carried.3)

  analysis-last : (c : Contents) (n : Ident) → EndsLast w text tokens (analysis c n)
  analysis-last c n = next-last (table_of_name c n) _ (λ t action next carried. carried.1)

  values-last : (type : SqlType) (t : TableNo) (col : ColNo) (distinct nulls : Said) (commons : List CommonWords) (bounds : List Lit) → EndsLast w text tokens (statistics_reading type t col distinct nulls commons bounds)
  values-last type t col distinct nulls commons bounds =
      next-last (bound_each (common_value type) commons) _ (λ values. next-last (bound_each (typed_value type) bounds) _ (λ limits action next carried. carried.2))

  statistics-last : (c : Contents) (n column : Ident) (distinct nulls : Said) (commons : List CommonWords) (bounds : List Lit) → EndsLast w text tokens (column_statistics_of c n column distinct nulls commons bounds)
  statistics-last c n column distinct nulls commons bounds =
      next-last (table_of_name c n) _ (λ t. next-last (column_of_name c t column) _ (λ col. values-last (type_at (table_at c t).columns col) t col distinct nulls commons bounds))

  last-by : (r : Reading) (m : Result Reading Fault) (action : Action) (next : ℕ) → Ok r ≡ m → EndsLast w text tokens m → Carries w text tokens r.definition action next → next ≡ end_of tokens
  last-by r m action next is ends carried = (subst (EndsLast w text tokens) (sym is) ends) action next carried

copy-end : (text : List ℕ) (tokens : List Token) (k : CopyWords) (n : Ident) (null : Said) → words_of (copy k n null) ≡ terminals text tokens → k.stop.end ≡ end_of tokens
copy-end text tokens k n null e = ap end_of (tokens-are (words_of (copy k n null)) text tokens e)

-- the last of some tokens
last-end : (ts : List Token) (t : Token) → end_of (ts ++ t ∷ []) ≡ t.end
last-end [] t = refl
last-end (u ∷ []) t = last-behind u t []
last-end (u ∷ v ∷ ts) t = last-behind u v (ts ++ t ∷ []) ∙ last-end (v ∷ ts) t

pub check-end : (text : List ℕ) (tokens : List Token) (p : IsOffered READS_CHECK) (k : Token) (x : WindowedSelect) (stop : Token) → words_of (check p k x stop) ≡ terminals text tokens → stop.end ≡ end_of tokens
check-end text tokens p k x stop e =
    let all = tokens-are (words_of (check p k x stop)) text tokens e in
    let apart : map token_in (words_of_windowed x ++ t_semicolon stop ∷ []) ≡ map token_in (words_of_windowed x) ++ stop ∷ [] = map-append token_in (words_of_windowed x) (t_semicolon stop ∷ []) in
    sym (last-end (k ∷ map token_in (words_of_windowed x)) stop) ∙ (ap (λ (l : List Token). end_of (k ∷ l)) (sym apart) ∙ ap end_of all)

pub use-end : (text : List ℕ) (tokens : List Token) (p : IsOffered READS_PLAN) (u l : Token) (q : Select) (y : OrderBy) (stop : Token) → words_of (use_plan p u l q y stop) ≡ terminals text tokens → stop.end ≡ end_of tokens
use-end text tokens p u l q y stop e =
    let all = tokens-are (words_of (use_plan p u l q y stop)) text tokens e in
    let end : List Terminal = t_semicolon stop ∷ [] in
    let apart = map-append token_in (words_of_select q) (words_of_order y ++ end) ∙ (ap (λ (l : List Token). map token_in (words_of_select q) ++ l) (map-append token_in (words_of_order y) end) ∙
    sym (append_assoc (map token_in (words_of_select q)) (map token_in (words_of_order y)) (stop ∷ []))) in
    sym (last-end (u ∷ l ∷ (map token_in (words_of_select q) ++ map token_in (words_of_order y))) stop) ∙ (ap (λ (ts : List Token). end_of (u ∷ l ∷ ts)) (sym apart) ∙ ap end_of all)

-- the lines behind a statement, and the one that ends them
takes-behind : (w : World) (text : List ℕ) (tokens : List Token) (x : WindowedSelect) (stop : Token) (act : Query → List ℕ → Action) (action : Action) (next : ℕ) → Takes w text tokens x stop act action next → (stop.end < next) × (next ≤ length text)
takes-behind w text tokens x stop act action next is =
    let begins = start-behind text stop.end is.start is.begins in
    let lies = block-within text is.start is.end next begins.1 is.ends in
    (omega (arith, begins.0, lies.order, lies.end_order), lies.within)

at-end-of : (text : List ℕ) (from next end : ℕ) → next ≡ end → EndsBehind text from end → EndsBehind text from next
at-end-of text from next end e is = let P : ℕ → Type 0 = λ n. EndsBehind text from n in subst P (sym e) is

behind-data : (text : List ℕ) (from mid end next : ℕ) → mid ≡ end → EndsBehind text from end → (mid < next) × (next ≤ length text) → EndsBehind text from next
behind-data text from mid end next e is more = record {
  behind = omega (arith, is.behind, e, more.0);
  ahead = λ within. omega (arith, is.behind, e, more.0);
  inside = more.1;
}

does-behind : (w : World) (text : List ℕ) (from : ℕ) (tokens : List Token) (x : Statement) (action : Action) (next : ℕ) →
    AreWords text from tokens → words_of x ≡ terminals text tokens → Does w text tokens x action next → EndsBehind text from next
does-behind w text from tokens (empty e) action next words spelled does = at-end-of text from next (end_of tokens) does.1 (ends-behind text from tokens words)
does-behind w text from tokens (create_index x) action next words spelled does = at-end-of text from next (end_of tokens) does.4 (ends-behind text from tokens words)
does-behind w text from tokens (query x) action next words spelled does = at-end-of text from next (end_of tokens) does.3 (ends-behind text from tokens words)
does-behind w text from tokens (create_table k t n o c cs m e) action next words spelled does =
    at-end-of text from next (end_of tokens) (table-behind w text tokens action next (bytes_of n) (token_of n) (bound_all (defined_column c ∷ further cs)) does.0 does.1 does.2) (ends-behind text from tokens words)
does-behind w text from tokens (sizes k n r p e) action next words spelled does =
    at-end-of text from next (end_of tokens) (last-by w text tokens does.0 (stated_rows w.contents n r p) action next does.1 (sizes-last w text tokens w.contents n r p) does.2) (ends-behind text from tokens words)
does-behind w text from tokens (column_statistics k n c d nulls commons bounds e) action next words spelled does =
    at-end-of text from next (end_of tokens)
    (last-by w text tokens does.0 (column_statistics_of w.contents n c d nulls (commons_of commons) (bounds_of bounds)) action next does.1
    (statistics-last w text tokens w.contents n c d nulls (commons_of commons) (bounds_of bounds)) does.2)
    (ends-behind text from tokens words)
does-behind w text from tokens (analyze p k n e) action next words spelled does =
    at-end-of text from next (end_of tokens) (last-by w text tokens does.0 (analysis w.contents n) action next does.1 (analysis-last w text tokens w.contents n) does.2) (ends-behind text from tokens words)
does-behind w text from tokens (advise x) action next words spelled does = at-end-of text from next (end_of tokens) does.1 (ends-behind text from tokens words)
does-behind w text from tokens (check p k x s) action next words spelled does =
    behind-data text from s.end (end_of tokens) next (check-end text tokens p k x s spelled) (ends-behind text from tokens words) (takes-behind w text tokens x s verify action next does)
does-behind w text from tokens (use_plan p k l q y s) action next words spelled does =
    behind-data text from s.end (end_of tokens) next (use-end text tokens p k l q y s spelled) (ends-behind text from tokens words)
    (takes-behind w text tokens (windowed_select q y (window no_limit no_offset)) s follow action next does)
does-behind w text from tokens (grouped p k l q) action next words spelled does = at-end-of text from next (end_of tokens) does.3 (ends-behind text from tokens words)
does-behind w text from tokens (copy k n null) action next words spelled does =
    behind-data text from k.stop.end (end_of tokens) next (copy-end text tokens k n null spelled) (ends-behind text from tokens words)
    (data-behind w text tokens action next k.stop.end (table_named w.contents (bytes_of n)) (token_of n) null.token null.value does.1.0 does.0 does.1.1 does.1.2 does.2)

-- a statement ends behind the place at which it begins, inside the text
pub read-behind : (w : World) (text : List ℕ) (from : ℕ) (tokens : List Token) (action : Action) (next : ℕ) → AreWords text from tokens → IsReadOver w text tokens action next → EndsBehind text from next
read-behind w text from tokens action next words is = does-behind w text from tokens is.statement action next words is.spelled.words is.does
