-- What STATISTICS and ANALYZE mean is sound.
use Rattle.std.proofs.Common.{◌≡◌, ℕ, ◌+◌, ◌*◌, ◌<◌, ◌≤◌, List, [], ◌∷◌, ◌++◌, length, map, refl, ap, subst, arith, Option, Some, None, position, Result, Ok, Err, All, length-append}
use Rattle.std.specs.List.{flat_map}
use Rattle.std.specs.Option.{option_map}
use Rattle.std.specs.Str.{bytes_eq}
use Rattle.std.proofs.lemmas.List.{length-map}
use Rattle.std.proofs.lemmas.List.Elements.{All-nil, All-cons, All-tail}
use Rattle.std.proofs.lemmas.List.Quantifiers.{position-Some}
use Rattle.pg_base.specs.declared.faults.Code.{Code}
use Rattle.pg_base.specs.declared.faults.Code.TheVariants.{S2, S3}
use Rattle.pg_base.specs.declared.faults.Fault.{Fault}
use Rattle.pg_base.specs.declared.numbers.TableNo.{TableNo}
use Rattle.pg_base.specs.declared.numbers.ColNo.{ColNo}
use Rattle.pg_value.specs.declared.value.SqlType.{SqlType}
use Rattle.pg_value.specs.declared.value.Value.{Value}
use Rattle.sql_lex.specs.declared.tokens.Token.{Token}
use Rattle.sql_grammar.specs.declared.class.Symbol.TheVariants.{Close}
use Rattle.sql_grammar.specs.Terminals.{Terminal, Ident, Said, token_of, t_mark, t_number}
use Rattle.sql_grammar.specs.Syntax.{Mark, Lit, number, negative, quoted, constant, Share, share, CommonPart, no_common, common, Histogram, no_histogram, histogram}
use Rattle.sql_grammar.specs.Words.{words_of_lit, words_of_share, words_of_shares, words_of_common, words_of_bounds, words_of_histogram}
use Rattle.sql_grammar.specs.Faults.{bytes_of}
use Rattle.sql_grammar.specs.work.Unique.{token_in}
use Rattle.expr_reader.specs.Literals.{typed_value}
use Rattle.expr_reader.specs.Conditions.{next}
use Rattle.catalog.specs.Contents.{Contents, IsTable, IsColumn, IsLawful, no_table, table_at, table_names}
use Rattle.catalog.specs.Indexes.{type_at}
use Rattle.catalog.specs.Statistics.{IsValueOf}
use Rattle.catalog.specs.Tables.{table_named, column_named}
use Rattle.expr_reader.specs.Lists.{further_parts, bound_each}
use Rattle.ddl_reader.specs.Statistics.{CommonWords, common_words, commons_of, bounds_of, common_value, known, number_of_32, number_of_64, start_of, start_of_lit, starts_of_common, places_of, sizes_reading, statistics_reading, column_of_name, stated_rows, column_statistics_of, analysis, analysis_reading}
use Rattle.ddl_reader.specs.Tables.{Reading, statistics_for}
use Rattle.ddl_reader.specs.work.Soundness.{IsSound}
use Rattle.ddl_reader.proofs.ListLemmas.{each-same}
use Rattle.expr_reader.proofs.EachLemmas.{each-holds}
use Rattle.ddl_reader.proofs.ValueLemmas.{typed-is}

-- each of some words begins at `most` at last
abbrev pub AreWithin : ℕ → List Terminal → Type 0
AreWithin most [] = Unit {0}
AreWithin most (w ∷ ws) = ((token_in w).start ≤ most) × AreWithin most ws

pub within-all : (most : ℕ) (ws : List Terminal) → All (λ u. u.start ≤ most) (map token_in ws) → AreWithin most ws
within-all most [] h = tt
within-all most (w ∷ ws) h = (h 0 (token_in w) (omega arith), within-all most ws (All-tail (λ u. u.start ≤ most) (token_in w) (map token_in ws) h))

split : (most : ℕ) (a b : List Terminal) → AreWithin most (a ++ b) → AreWithin most a × AreWithin most b
split most [] b h = (tt, h)
split most (w ∷ a) b h = let (first, rest) = split most a b h.1 in ((h.0, first), rest)

-- the places of literals and shares among the words
module _ (most : ℕ) where
  abbrev Low : List ℕ → Type 0
  Low ns = All (λ a. a ≤ most) ns

  lit-within : (l : Lit) → AreWithin most (words_of_lit l) → start_of_lit l ≤ most
  lit-within (number n) h = h.0
  lit-within (negative m n) h = h.0
  lit-within (quoted q) h = h.0
  lit-within (constant c k) h = h.0

  share-within : (s : Share) (ns : List ℕ) → AreWithin most (words_of_share s) → Low ns → Low (starts_of_common (common_words s) ++ ns)
  share-within (share l n) ns h low =
      let (lit, part) = split most (words_of_lit l) (t_number n ∷ []) h in
      All-cons (λ a. a ≤ most) (start_of_lit l) (start_of n ∷ ns) (lit-within l lit) (All-cons (λ a. a ≤ most) (start_of n) ns part.0 low)

  shares-within : (ss : List (Mark × Share)) (ns : List ℕ) → AreWithin most (words_of_shares ss) → Low ns → Low (flat_map starts_of_common (further_parts common_words ss) ++ ns)
  shares-within [] ns h low = low
  shares-within ((m, s) ∷ ss) ns h low =
      let (one, more) = split most (words_of_share s) (words_of_shares ss) h.1 in
      share-within s (flat_map starts_of_common (further_parts common_words ss) ++ ns) one (shares-within ss ns more low)

  common-within : (c : CommonPart) (ns : List ℕ) → AreWithin most (words_of_common c) → Low ns → Low (flat_map starts_of_common (commons_of c) ++ ns)
  common-within no_common ns h low = low
  common-within (common k o s ss m) ns h low =
      let (one, rest) = split most (words_of_share s) (words_of_shares ss ++ t_mark Close m ∷ []) h.1.1 in
      let (more, last) = split most (words_of_shares ss) (t_mark Close m ∷ []) rest in
      share-within s (flat_map starts_of_common (further_parts common_words ss) ++ ns) one (shares-within ss ns more low)

  bounds-within : (ls : List (Mark × Lit)) → AreWithin most (words_of_bounds ls) → Low (map start_of_lit (further_parts (λ l. l) ls))
  bounds-within [] h = All-nil (λ a. a ≤ most)
  bounds-within ((m, l) ∷ ls) h =
      let (one, more) = split most (words_of_lit l) (words_of_bounds ls) h.1 in
      All-cons (λ a. a ≤ most) (start_of_lit l) (map start_of_lit (further_parts (λ x. x) ls)) (lit-within l one) (bounds-within ls more)

  histogram-within : (h : Histogram) → AreWithin most (words_of_histogram h) → Low (map start_of_lit (bounds_of h))
  histogram-within no_histogram h = All-nil (λ a. a ≤ most)
  histogram-within (histogram k o l ls m) h =
      let (one, rest) = split most (words_of_lit l) (words_of_bounds ls ++ t_mark Close m ∷ []) h.1.1 in
      let (more, last) = split most (words_of_bounds ls) (t_mark Close m ∷ []) rest in
      All-cons (λ a. a ≤ most) (start_of_lit l) (map start_of_lit (further_parts (λ x. x) ls)) (lit-within l one) (bounds-within ls more)

  pub places-within : (d z : Said) (c : CommonPart) (h : Histogram) (rest : List Terminal) → d.token.start ≤ most → z.token.start ≤ most → AreWithin most (words_of_common c ++ (words_of_histogram h ++ rest)) →
      Low (places_of d z (commons_of c) (bounds_of h))
  places-within d z c h rest distinct nulls lists =
      let (commons, more) = split most (words_of_common c) (words_of_histogram h ++ rest) lists in
      let (bounds, last) = split most (words_of_histogram h) rest more in
      let low = common-within c (map start_of_lit (bounds_of h)) commons (histogram-within h bounds) in
      let later = flat_map starts_of_common (commons_of c) ++ map start_of_lit (bounds_of h) in
      All-cons (λ a. a ≤ most) (start_of d) (start_of z ∷ later) distinct (All-cons (λ a. a ≤ most) (start_of z) later nulls low)

-- how many places there are
pairs : (ws : List CommonWords) → length (flat_map starts_of_common ws) ≡ 2 * length ws
pairs [] = refl
pairs (w ∷ ws) = omega (arith, pairs ws)

each-counted : {A B : Type 0} (f : A → Result B Fault) (xs : List A) (bs : List B) → bound_each f xs ≡ Ok bs → length xs ≡ length bs
each-counted f xs bs is =
    let same = ap length (each-same {C = ℕ} f (λ _. 0) (λ _. 0) (λ x b e. refl) xs bs is) in
    omega (arith, length-map {B = ℕ} xs (λ _. 0), length-map {B = ℕ} bs (λ _. 0), same)

places-counted : (d z : Said) (ws : List CommonWords) (ls : List Lit) → length (places_of d z ws ls) ≡ 2 + (2 * length ws + length ls)
places-counted d z ws ls = omega (arith, length-append (flat_map starts_of_common ws) (map start_of_lit ls), pairs ws, length-map ls start_of_lit)

-- a common value is one of the column's type
common-by : (t : SqlType) (l : Lit) (k : ℕ) (p : Value × ℕ) (m : Result Value Fault) → typed_value t l ≡ m → next m (λ v. Ok (v, k)) ≡ Ok p → IsValueOf t p.0
common-by t l k p (Err f) is e = absurd (cc (e))
common-by t l k p (Ok v) is e = let same : (v, k) ≡ p = cc (e) in subst (λ (q : Value × ℕ). IsValueOf t q.0) same (typed-is t l v is)

-- what a word means
known-is : {A B : Type 0} (code : Code) (token : Token) (o : Option A) (more : A → Result B Fault) (r : B) → Ok r ≡ next (known code token o) more → (a : A) × (o ≡ Some a) × (Ok r ≡ more a)
known-is code token None more r is = absurd (cc (is))
known-is code token (Some a) more r is = (a, refl, is)

module _ (cat : Contents) (text : List ℕ) where
  pub known-table : (name : List ℕ) (t : TableNo) (o : Option ℕ) → position (bytes_eq name) (table_names cat) ≡ o → option_map (λ n. record { 0 = n }) o ≡ Some t → IsTable cat t
  known-table name t None at is = absurd (cc (is))
  known-table name t (Some n) at is =
      let within = (position-Some (bytes_eq name) (table_names cat) n [] at).0 in
      let len = length-map cat.tables (λ d. d.name) in
      let here : n < length cat.tables = omega (arith, within, len) in
      let same : record { 0 = n } ≡ t = cc (is) in
      subst (IsTable cat) same here

  known-column : (t : TableNo) (name : List ℕ) (c : ColNo) (o : Option ℕ) → IsLawful cat → IsTable cat t → position (bytes_eq name) (table_at cat t).names ≡ o → option_map (λ n. record { 0 = n }) o ≡ Some c → IsColumn cat t c
  known-column t name c None lawful there at is = absurd (cc (is))
  known-column t name c (Some n) lawful there at is =
      let within = (position-Some (bytes_eq name) (table_at cat t).names n [] at).0 in
      let width = (lawful.tables t.0 no_table there).width in
      let here : n < length (table_at cat t).columns = omega (arith, within, width) in
      let same : record { 0 = n } ≡ c = cc (is) in
      subst (IsColumn cat t) same here

  -- the size of a table
  pub sizes-sound : (n : Ident) (rows pages : Said) (r : Reading) → rows.token.start ≤ length text → pages.token.start ≤ length text → Ok r ≡ stated_rows cat n rows pages → IsSound cat text r
  sizes-sound n rows pages r first second is =
      let (t, named, e) = known-is S2 (token_of n) (table_named cat (bytes_of n)) (λ t. Ok (sizes_reading rows pages t)) r is in
      let same : sizes_reading rows pages t ≡ r = cc (e) in
      subst (IsSound cat text) same (record {
        table = known-table (bytes_of n) t _ refl named;
        places = refl;
        within = All-cons (λ a. a ≤ length text) (start_of rows) (start_of pages ∷ []) first (All-cons (λ a. a ≤ length text) (start_of pages) [] second (All-nil (λ a. a ≤ length text)));
      })

  -- the table to be analyzed
  pub analysis-sound : (n : Ident) (r : Reading) → Ok r ≡ analysis cat n → IsSound cat text r
  analysis-sound n r is =
      let (t, named, e) = known-is S2 (token_of n) (table_named cat (bytes_of n)) (λ t. Ok (analysis_reading t)) r is in
      let same : analysis_reading t ≡ r = cc (e) in
      subst (IsSound cat text) same (known-table (bytes_of n) t _ refl named)

  lists-sound : (t : TableNo) (col : ColNo) (d z : Said) (ws : List CommonWords) (ls : List Lit) (r : Reading) (commons : Result (List (Value × ℕ)) Fault) (bounds : Result (List Value) Fault) →
      IsTable cat t → IsColumn cat t col → All (λ a. a ≤ length text) (places_of d z ws ls) →
      bound_each (common_value (type_at (table_at cat t).columns col)) ws ≡ commons → bound_each (typed_value (type_at (table_at cat t).columns col)) ls ≡ bounds →
      Ok r ≡ next commons (λ values.
      next bounds (λ limits.
      Ok
      (record {
        definition = statistics_for t col (record { distinct = number_of_64 d; nulls = number_of_32 z; common = values; histogram = limits });
        at = places_of d z ws ls;
      }))) → IsSound cat text r
  lists-sound t col d z ws ls r (Err f) bounds table column low are-commons are-bounds is = absurd (cc (is))
  lists-sound t col d z ws ls r (Ok cs) (Err f) table column low are-commons are-bounds is = absurd (cc (is))
  lists-sound t col d z ws ls r (Ok cs) (Ok vs) table column low are-commons are-bounds is =
      let type = type_at (table_at cat t).columns col in
      let places = places-counted d z ws ls in
      let commons = each-counted (common_value type) ws cs are-commons in
      let bounds = each-counted (typed_value type) ls vs are-bounds in
      let same : record {
        definition = statistics_for t col (record { distinct = number_of_64 d; nulls = number_of_32 z; common = cs; histogram = vs });
        at = places_of d z ws ls;
      } ≡ r = cc (is) in
      subst (IsSound cat text) same (record {
        table = table;
        column = column;
        values = record {
          common = each-holds (common_value type) (λ p. IsValueOf type p.0) (λ w p e. common-by type w.0 (number_of_32 w.1) p (typed_value type w.0) refl e) ws cs are-commons;
          histogram = each-holds (typed_value type) (IsValueOf type) (typed-is type) ls vs are-bounds;
        };
        places = omega (arith, places, commons, bounds);
        within = low;
      })

  -- what is known of a column
  pub column-sound : (n c : Ident) (d z : Said) (ws : List CommonWords) (ls : List Lit) (r : Reading) → IsLawful cat → All (λ a. a ≤ length text) (places_of d z ws ls) →
      Ok r ≡ column_statistics_of cat n c d z ws ls → IsSound cat text r
  column-sound n c d z ws ls r lawful low is =
      let (t, named, e) = known-is S2 (token_of n) (table_named cat (bytes_of n)) (λ t. next (column_of_name cat t c) (λ col. statistics_reading (type_at (table_at cat t).columns col) t col d z ws ls)) r is in
      let (col, titled, f) = known-is S3 (token_of c) (column_named cat t (bytes_of c)) (λ col. statistics_reading (type_at (table_at cat t).columns col) t col d z ws ls) r e in
      let table = known-table (bytes_of n) t _ refl named in
      lists-sound t col d z ws ls r _ _ table (known-column t (bytes_of c) col _ lawful table refl titled) low refl refl f
