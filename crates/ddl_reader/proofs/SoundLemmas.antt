-- What a statement means is sound.
use Rattle.std.proofs.Common.{◌≡◌, ℕ, ◌≤◌, Bool, true, false, cond, List, [], ◌∷◌, ◌++◌, length, drop, map, refl, sym, ap, ◌∙◌, subst, arith, Option, Some, None, Result, Ok, Err, IfOk, All, append_assoc}
use Rattle.std.specs.Str.{bytes_eq}
use Rattle.std.proofs.lemmas.List.{length-map, length-drop}
use Rattle.std.proofs.lemmas.List.Elements.{All-nil, All-cons, All-tail}
use Rattle.std.proofs.lemmas.Option.{slice_get_within}
use Rattle.pg_base.specs.declared.limits.TheConstants.{MOST_COLUMNS}
use Rattle.pg_base.specs.declared.faults.Fault.{Fault}
use Rattle.pg_base.specs.declared.faults.Refusal.{Refusal}
use Rattle.pg_base.specs.declared.numbers.TableNo.{TableNo}
use Rattle.pg_value.specs.declared.value.SqlType.{SqlType}
use Rattle.sql_lex.specs.declared.tokens.Token.{Token}
use Rattle.sql_lex.specs.Words.{AreWords}
use Rattle.sql_grammar.specs.Terminals.{Terminal, Ident, token_of, t_name}
use Rattle.sql_grammar.specs.Syntax.{Mark, Nulls, TypeTree, ColDef, coldef, Statement, empty, create_table, create_index, query, copy, sizes, column_statistics, analyze, advise, check, use_plan, grouped}
use Rattle.sql_grammar.specs.Words.{words_of, words_of_nulls, words_of_type, words_of_coldef, words_of_columns, words_of_ending}
use Rattle.sql_grammar.specs.Faults.{bytes_of}
use Rattle.sql_grammar.specs.work.Unique.{token_in}
use Rattle.sql_grammar.proofs.ExprTrees.{tokens-are}
use Rattle.sql_grammar.specs.CopyLine.{IsDataStart, after_blanks}
use Rattle.pg_base.specs.Names.{IsName}
use Rattle.catalog.specs.Contents.{Contents, IsTable, IsLawful}
use Rattle.catalog.specs.Tables.{table_named}
use Rattle.ddl_reader.specs.declared.ddl.Read.{Read}
use Rattle.ddl_reader.specs.Types.{type_bound}
use Rattle.ddl_reader.specs.Columns.{Written, BoundColumn, defined_column, further, bound_column, bound_by, bound_all}
use Rattle.ddl_reader.specs.Statistics.{commons_of, bounds_of}
use Rattle.ddl_reader.specs.Tables.{Reading, data_for, table_reading, limited_columns, bound_table, data_for_named, data_after}
use Rattle.pg_value.specs.Fields.{null_text}
use Rattle.ddl_reader.specs.Statements.{Means}
use Rattle.ddl_reader.specs.work.Statements.{IsMeaning}
use Rattle.ddl_reader.specs.work.Readings.{reading}
use Rattle.ddl_reader.specs.work.Soundness.{IsSound}
use Rattle.ddl_reader.proofs.TokenLaws.{starts-within}
use Rattle.ddl_reader.proofs.ListLemmas.{each-same}
use Rattle.ddl_reader.proofs.SoundStatisticsLemmas.{AreWithin, within-all, known-table, sizes-sound, column-sound, analysis-sound, places-within}
use Rattle.expr_reader.proofs.Named.{AreNamed, named-from}

-- what bound columns have of those that are defined_column
module _ {A : Type 0} (ours : BoundColumn → A) (theirs : Written → A)
    (alike : (w : Written) (t : SqlType) → ours (record { name = w.name; name_at = w.name_at; column = record { typed = t; not_null = w.not_null } }) ≡ theirs w) where
  bound-alike : (w : Written) (b : BoundColumn) (r : Result SqlType Fault) → bound_by r w ≡ Ok b → ours b ≡ theirs w
  bound-alike w b (Err f) is = absurd (cc)
  bound-alike w b (Ok t) is =
      let same : record { name = w.name; name_at = w.name_at; column = record { typed = t; not_null = w.not_null } } ≡ b = cc in
      sym (ap ours same) ∙ alike w t

  all-alike : (ws : List Written) (bs : List BoundColumn) → bound_all ws ≡ Ok bs → map ours bs ≡ map theirs ws
  all-alike ws bs is = sym (each-same bound_column theirs ours (λ w b e. sym (bound-alike w b (type_bound w.kind.at w.kind.word w.kind.numbers) e)) ws bs is)

-- the names of bound columns and their places are those that are defined_column
abbrev AreCalled : List Written → List BoundColumn → Type 0
AreCalled ws bs = map (λ b. b.name) bs ≡ map (λ w. w.name) ws

abbrev ArePlaced : List Written → List BoundColumn → Type 0
ArePlaced ws bs = map (λ b. b.name_at.start) bs ≡ map (λ w. w.name_at.start) ws

called : (ws : List Written) (bs : List BoundColumn) → bound_all ws ≡ Ok bs → AreCalled ws bs
called = all-alike (λ b. b.name) (λ w. w.name) (λ w t. refl)

put : (ws : List Written) (bs : List BoundColumn) → bound_all ws ≡ Ok bs → ArePlaced ws bs
put = all-alike (λ b. b.name_at.start) (λ w. w.name_at.start) (λ w t. refl)

-- what holds of each name among some words
abbrev Holds : (Ident → Type 0) → List Terminal → Type 0
Holds Q [] = Unit {0}
Holds Q (w ∷ ws) = ((n : Ident) → w ≡ t_name n → Q n) × Holds Q ws

holds-named : (ws : List Terminal) → AreNamed ws → Holds (λ n. IsName (bytes_of n)) ws
holds-named [] h = tt
holds-named (w ∷ ws) h = (h.0, holds-named ws h.1)

holds-placed : (most : ℕ) (ws : List Terminal) → All (λ u. u.start ≤ most) (map token_in ws) → Holds (λ n. (token_of n).start ≤ most) ws
holds-placed most [] h = tt
holds-placed most (w ∷ ws) h = (
  λ n is. subst (λ (u : Token). u.start ≤ most) (ap token_in is) (h 0 (token_in w) (omega arith)),
  holds-placed most ws (All-tail (λ u. u.start ≤ most) (token_in w) (map token_in ws) h),
)

-- holds of the columns that are defined_column
module _ (Q : Ident → Type 0) where
  holds-behind : (a b : List Terminal) → Holds Q (a ++ b) → Holds Q b
  holds-behind [] b h = h
  holds-behind (w ∷ a) b h = holds-behind a b h.1

  columns-hold : {A : Type 0} (P : A → Type 0) (f : Written → A) → ((n : Ident) (k : TypeTree) (nulls : Nulls) → Q n → P (f (defined_column (coldef n k nulls)))) → (c : ColDef) (cs : List (Mark × ColDef)) (rest : List Terminal) →
      Holds Q (words_of_coldef c ++ (words_of_columns cs ++ rest)) → All P (map f (defined_column c ∷ further cs))
  columns-hold P f is (coldef n k nulls) [] rest h = All-cons P (f (defined_column (coldef n k nulls))) [] (is n k nulls (h.0 n refl)) (All-nil P)
  columns-hold P f is (coldef n k nulls) ((m, d) ∷ ds) rest h =
      let later = holds-behind (words_of_type k ++ words_of_nulls nulls) _ h.1 in
      All-cons P (f (defined_column (coldef n k nulls))) (map f (defined_column d ∷ further ds)) (is n k nulls (h.0 n refl))
      (columns-hold P f is d ds rest (subst (Holds Q) (append_assoc (words_of_coldef d) (words_of_columns ds) rest) later.1))

-- a table that is meant
few-by : (bs left : List BoundColumn) → drop MOST_COLUMNS bs ≡ left → left ≡ [] → length bs ≤ MOST_COLUMNS
few-by bs left is none = let len = length-drop MOST_COLUMNS bs in let zero-left = ap length (is ∙ none) in omega (arith, len, zero-left)

module _ (cat : Contents) (text : List ℕ) where
  table-sound : (name : List ℕ) (token : Token) (w : Written) (ws : List Written) (bs : List BoundColumn) → IsName name → All IsName (map (λ v. v.name) (w ∷ ws)) → AreCalled (w ∷ ws) bs →
      token.start ≤ length text → All (λ a. a ≤ length text) (map (λ v. v.name_at.start) (w ∷ ws)) → ArePlaced (w ∷ ws) bs → length bs ≤ MOST_COLUMNS → IsSound cat text (table_reading name token bs)
  table-sound name token w ws bs named all same here low placed few =
      let names = length-map bs (λ (b : BoundColumn). b.name) in
      let columns = length-map bs (λ (b : BoundColumn). b.column) in
      let places = length-map bs (λ (b : BoundColumn). b.name_at.start) in
      let all-names = length-map (w ∷ ws) (λ (v : Written). v.name) in
      let count = ap length same in
      record {
        name = named;
        names = subst (All IsName) (sym same) all;
        width = omega (arith, names, columns);
        places = omega (arith, names, places);
        within = All-cons (λ a. a ≤ length text) token.start _ here (subst (All (λ a. a ≤ length text)) (sym placed) low);
        some = omega (arith, names, columns, all-names, count);
        few = omega (arith, columns, few);
      }

  limited-sound : (m r : Reading) (bs left : List BoundColumn) → drop MOST_COLUMNS bs ≡ left → (length bs ≤ MOST_COLUMNS → IsSound cat text m) → Ok r ≡ limited_columns m left → IsSound cat text r
  limited-sound m r bs [] few sound is = let same : m ≡ r = cc in subst (IsSound cat text) same (sound (few-by bs [] few refl))
  limited-sound m r bs (b ∷ left) few sound is = absurd (cc (is))

  bound-sound : (name : List ℕ) (token : Token) (w : Written) (ws : List Written) (r : Reading) (m : Result (List BoundColumn) Fault) → IsName name → All IsName (map (λ v. v.name) (w ∷ ws)) → token.start ≤ length text →
      All (λ a. a ≤ length text) (map (λ v. v.name_at.start) (w ∷ ws)) → bound_all (w ∷ ws) ≡ m → Ok r ≡ bound_table name token m → IsSound cat text r
  bound-sound name token w ws r (Err f) named all here low is means = absurd (cc (means))
  bound-sound name token w ws r (Ok bs) named all here low is means =
      limited-sound (table_reading name token bs) r bs (drop MOST_COLUMNS bs) refl (λ few. table-sound name token w ws bs named all (called (w ∷ ws) bs is) here low (put (w ∷ ws) bs is) few) means

  -- data that are meant
  text-sound : (t : TableNo) (start : ℕ) (r : Reading) (f : Fault) (b : Bool) → IsTable cat t → start ≤ length text → Ok r ≡ cond b (Ok (record { definition = data_for t start; at = [] })) (Err f) → IsSound cat text r
  text-sound t start r f true there within is = let same : record { definition = data_for t start; at = [] } ≡ r = cc (is) in subst (IsSound cat text) same (there, within)
  text-sound t start r f false there within is = absurd (cc (is))

  of-sound : (name : List ℕ) (name_at null_at : Token) (null : List ℕ) (start : ℕ) (r : Reading) (o : Option TableNo) → table_named cat name ≡ o → start ≤ length text → Ok r ≡ data_for_named o name_at null null_at start → IsSound cat text r
  of-sound name name_at null_at null start r None is within means = absurd (cc (means))
  of-sound name name_at null_at null start r (Some t) is within means = text-sound t start r _ (bytes_eq null null_text) (known-table cat text name t _ refl is) within means

  data-sound : (name : List ℕ) (name_at null_at : Token) (null : List ℕ) (end : ℕ) (r : Reading) (start : Result ℕ Fault) → IsDataStart text end start →
      Ok r ≡ data_after (table_named cat name) name_at null null_at start → IsSound cat text r
  data-sound name name_at null_at null end r (Err f) begins means = absurd (cc (means))
  data-sound name name_at null_at null end r (Ok start) begins means =
      let lf = slice_get_within text (after_blanks text end) 10 begins.0 in
      of-sound name name_at null_at null start r (table_named cat name) refl (omega (arith, lf, begins.1)) means

  statement-sound : (r : Reading) (x : Statement) → IsLawful cat → Holds (λ n. IsName (bytes_of n)) (words_of x) → Holds (λ n. (token_of n).start ≤ length text) (words_of x) → AreWithin (length text) (words_of x) → Means cat text x (Ok r) →
      IsSound cat text r
  statement-sound r (empty e) lawful named placed low means = absurd means
  statement-sound r (create_index x) lawful named placed low means = absurd means
  statement-sound r (query x) lawful named placed low means = absurd means
  statement-sound r (advise x) lawful named placed low means = absurd means
  statement-sound r (check offered k x e) lawful named placed low means = absurd means
  statement-sound r (use_plan offered u k x y e) lawful named placed low means = absurd means
  statement-sound r (grouped offered u k x) lawful named placed low means = absurd means
  statement-sound r (copy k n null) lawful named placed low (start, begins, means) = data-sound (bytes_of n) _ _ null.value _ r start begins means
  statement-sound r (create_table k t n o c cs m e) lawful named placed low means =
      bound-sound (bytes_of n) (token_of n) (defined_column c) (further cs) r _ (named.1.1.0 n refl) (columns-hold _ IsName (λ w. w.name) (λ i j nulls h. h) c cs _ named.1.1.1.1)
      (placed.1.1.0 n refl) (columns-hold _ (λ a. a ≤ length text) (λ w. w.name_at.start) (λ i j nulls h. h) c cs _ placed.1.1.1.1) refl means
  statement-sound r (analyze offered k n e) lawful named placed low means = analysis-sound cat text n r means
  statement-sound r (sizes k n rows pages e) lawful named placed low means = sizes-sound cat text n rows pages r low.1.1.1.0 low.1.1.1.1.1.0 means
  statement-sound r (column_statistics k n c d z m h e) lawful named placed low means =
      column-sound cat text n c d z (commons_of m) (bounds_of h) r lawful (places-within (length text) d z m h (words_of_ending e) low.1.1.1.1.1.0 low.1.1.1.1.1.1.1.0 low.1.1.1.1.1.1.1.1) means

  pub meaning-sound : (tokens : List Token) (from : ℕ) (r : Reading) → IsLawful cat → AreWords text from tokens → IsMeaning cat text tokens (Ok r) → IsSound cat text r
  meaning-sound tokens from r lawful w m =
      let x = m.statement in
      let words = m.spelled.words in
      let named = subst AreNamed (sym words) (named-from text from tokens 0 w m.spelled.limits) in
      let placed = subst (All (λ u. u.start ≤ length text)) (sym (tokens-are (words_of x) text tokens words)) (starts-within text from tokens w) in
      statement-sound r x lawful (holds-named (words_of x) named) (holds-placed (length text) (words_of x) placed) (within-all (length text) (words_of x) placed) m.means

  -- a statement that is read
  pub sound-as : (tokens : List Token) (from : ℕ) (r : Result Read Refusal) → IsLawful cat → AreWords text from tokens → IfOk r (λ v. IsMeaning cat text tokens (Ok (reading v))) → IfOk r (λ v. IsSound cat text (reading v))
  sound-as tokens from (Ok v) lawful w m = meaning-sound tokens from (reading v) lawful w m
  sound-as tokens from (Err e) lawful w m = tt
