-- What CREATE INDEX means is sound.
use Rattle.std.proofs.Common.{◌≡◌, ℕ, ◌<◌, ◌≤◌, Bool, true, false, List, [], ◌∷◌, ◌++◌, length, map, drop, take, cond, All, refl, sym, ap, ◌∙◌, subst, arith, Option, Some, None, position, Result, Ok, Err, IfOk, length-append, length-drop, append_assoc}
use Rattle.std.specs.Option.{option_map}
use Rattle.std.specs.Str.{bytes_eq}
use Rattle.std.proofs.lemmas.Bool.{and_from}
use Rattle.std.proofs.lemmas.Bool.Decides.{Decides-eqb}
use Rattle.std.proofs.lemmas.List.{length-map}
use Rattle.std.proofs.lemmas.List.Elements.{All-nil, All-cons, All-append, All-drop, All-take}
use Rattle.std.proofs.lemmas.List.Quantifiers.{position-Some}
use Rattle.pg_base.specs.declared.faults.Code.{Code}
use Rattle.pg_base.specs.declared.faults.Fault.{Fault}
use Rattle.pg_base.specs.declared.faults.Refusal.{Refusal}
use Rattle.pg_base.specs.Names.{IsName}
use Rattle.pg_base.specs.declared.limits.TheConstants.{MOST_COLUMNS}
use Rattle.pg_base.specs.declared.numbers.ColNo.{ColNo}
use Rattle.pg_base.specs.declared.numbers.TableNo.{TableNo}
use Rattle.pg_value.specs.declared.columns.Column.{Column}
use Rattle.pg_value.specs.declared.value.SqlType.{SqlType}
use Rattle.pg_value.specs.declared.value.SqlType.TheVariants as types
use Rattle.opfamily.specs.declared.classes.Method.{Method}
use Rattle.opfamily.specs.declared.classes.Method.TheVariants.{Btree, Hash}
use Rattle.opfamily.specs.declared.classes.OpClass.{OpClass}
use Rattle.opfamily.specs.declared.classes.OpClass.TheVariants.{NumericOps}
use Rattle.opfamily.specs.Answers.{accepted, class_of_name, default_class_of}
use Rattle.opfamily.specs.work.Answers.{is_for}
use Rattle.opfamily.proofs.ClassLemmas.{accepted-parts, numeric-own, numeric-takes}
use Rattle.pg_expr.specs.Cond.{Cond}
use Rattle.pg_expr.specs.Pushed.{pushed}
use Rattle.pg_expr.proofs.FormLaws.{pushed-form}
use Rattle.pg_expr.proofs.KeptLaws.{pushed-typed, pushed-each}
use Rattle.sql_lex.specs.declared.tokens.Token.{Token}
use Rattle.sql_lex.specs.Words.{AreWords}
use Rattle.sql_grammar.specs.declared.class.Symbol.TheVariants.{Close}
use Rattle.sql_grammar.specs.Terminals.{Terminal, Ident, token_of, t_mark}
use Rattle.sql_grammar.specs.Syntax.{Mark, Where, no_where, where_expr, ClassTree, no_class, op_class, KeyTree, index_key, Using, no_using, using_method, Include, no_include, include_columns, Cand, cand_on}
use Rattle.sql_grammar.specs.Words.{words_of_where, words_of_key, words_of_keys, words_of_using, words_of_names, words_of_include, words_of_cand}
use Rattle.sql_grammar.specs.Faults.{bytes_of}
use Rattle.sql_grammar.proofs.ExprTrees.{tokens-are}
use Rattle.expr_reader.proofs.Named.{AreNamed, named-from}
use Rattle.query_reader.proofs.ReadingLemmas.{named-between}
use Rattle.catalog.specs.Contents.{Contents, IsTable, IsLawful, no_table, table_at}
use Rattle.catalog.specs.Indexes.{IsKeyOf, IsPredicateOf, type_at}
use Rattle.catalog.specs.Tables.{column_named, table_named}
use Rattle.expr_reader.specs.Conditions.{meaning_of_expr}
use Rattle.expr_reader.proofs.TypedLemmas.{next-done, expr-good}
use Rattle.expr_reader.specs.Lists.{further_parts, before_all, bound_each}
use Rattle.ddl_reader.specs.Statistics.{known, column_of_name, table_of_name}
use Rattle.ddl_reader.proofs.ListLemmas.{each-same}
use Rattle.expr_reader.proofs.EachLemmas.{each-holds}
use Rattle.ddl_reader.proofs.SoundStatisticsLemmas.{AreWithin, within-all, known-table}
use Rattle.ddl_reader.proofs.TokenLaws.{starts-within}
use Rattle.index_reader.specs.declared.index.ReadIndex.{ReadIndex}
use Rattle.index_reader.specs.declared.keys.KeyRead.{KeyRead}
use Rattle.index_reader.specs.declared.names.NamedColumn.{NamedColumn}
use Rattle.index_reader.specs.declared.methods.MethodRead.{MethodRead}
use Rattle.index_reader.specs.Visible.{Sight, visible_in, sight_type}
use Rattle.expr_reader.specs.Sorts.{is_descending, has_nulls_first}
use Rattle.index_reader.specs.Keys.{method_of_name, method_bound, class_has_method, class_known, given, class_bound, key_bound, all_key_trees, name_bound, include_names}
use Rattle.index_reader.specs.Meaning.{IndexMeant, condition_bound, name_tokens, limited_names, has_many_atoms, index_reading, meaning_of_cand}
use Rattle.index_reader.specs.work.Reads.{index_meant}
use Rattle.index_reader.proofs.VisibleLemmas.{all-map, is_first_column, visible-columns}
use Rattle.index_reader.specs.work.Soundness.{IsSound}
use Rattle.index_reader.specs.work.Candidates.{IsCandAt}

known-some : {A : Type 0} (code : Code) (token : Token) (o : Option A) (a : A) → known code token o ≡ Ok a → o ≡ Some a
known-some code token None a is = absurd (cc (is))
known-some code token (Some b) a is = let same : b ≡ a = cc (is) in ap Some same

-- the class where none is named
same-scale : (m : Method) (digits scale : ℕ) → is_for (NumericOps scale) m ≡ true → accepted (NumericOps scale) m (types.Numeric digits scale) ≡ true
same-scale m digits scale for =
    accepted-parts (NumericOps scale) m (types.Numeric digits scale) ∙
    and_from _ _ for (numeric-own scale (types.Numeric digits scale) ∙ (numeric-takes scale digits scale ∙ (Decides-eqb scale scale).1 refl))

default-accepted : (m : Method) (s : SqlType) → accepted (given (default_class_of s m)) m s ≡ true
default-accepted Btree types.Int2 = refl
default-accepted Btree types.Int4 = refl
default-accepted Btree types.Int8 = refl
default-accepted Btree types.Text = refl
default-accepted Btree types.Bool = refl
default-accepted Btree types.Uuid = refl
default-accepted Btree types.Date = refl
default-accepted Btree types.Timestamp = refl
default-accepted Btree types.TimestampTz = refl
default-accepted Btree (types.Numeric digits scale) = same-scale Btree digits scale refl
default-accepted Hash types.Int2 = refl
default-accepted Hash types.Int4 = refl
default-accepted Hash types.Int8 = refl
default-accepted Hash types.Text = refl
default-accepted Hash types.Bool = refl
default-accepted Hash types.Uuid = refl
default-accepted Hash types.Date = refl
default-accepted Hash types.Timestamp = refl
default-accepted Hash types.TimestampTz = refl
default-accepted Hash (types.Numeric digits scale) = same-scale Hash digits scale refl

class-passed : (b a : Bool) (c k : OpClass) (f g : Fault) → cond b (cond a (Ok c) (Err f)) (Err g) ≡ Ok k → (a ≡ true) × (c ≡ k)
class-passed false a c k f g is = absurd (cc (is))
class-passed true false c k f g is = absurd (cc (is))
class-passed true true c k f g is = (refl, cc (is))

known-accepted : (token : Token) (m : Method) (s : SqlType) (o : Option OpClass) (k : OpClass) → class_known token m s o ≡ Ok k → accepted k m s ≡ true
known-accepted token m s None k is = absurd (cc (is))
known-accepted token m s (Some c) k is =
    let (passed, same) = class-passed (class_has_method c m) (accepted c m s) c k _ _ is in
    subst (λ d. accepted d m s ≡ true) same passed

class-accepted : (m : Method) (s : SqlType) (c : ClassTree) (k : OpClass) → class_bound m s c ≡ Ok k → accepted k m s ≡ true
class-accepted m s no_class k is = let same : given (default_class_of s m) ≡ k = cc (is) in subst (λ d. accepted d m s ≡ true) same (default-accepted m s)
class-accepted m s (op_class n p) k is = known-accepted (token_of n) m s (class_of_name (bytes_of n) s) k is

-- the first column of a list, and all of them
first-bound : {B : Type 0} (r : Result B Fault) (rs : Result (List B) Fault) (bs : List B) → before_all r rs ≡ Ok bs → 0 < length bs
first-bound (Err f) rs bs is = absurd (cc (is))
first-bound (Ok b) (Err f) bs is = absurd (cc (is))
first-bound (Ok b) (Ok cs) bs is = let same : b ∷ cs ≡ bs = cc (is) in subst (λ (l : List _). 0 < length l) same (omega arith)

-- the limits
limited-ok : {A : Type 0} (ts : List Token) (r : Result A Fault) (x : A) → limited_names ts r ≡ Ok x → (ts ≡ []) × (r ≡ Ok x)
limited-ok [] r x is = (refl, is)
limited-ok (t ∷ ts) r x is = absurd (cc (is))

passed-ok : {A : Type 0} (b : Bool) (f : Fault) (r : Result A Fault) (x : A) → cond b (Err f) r ≡ Ok x → r ≡ Ok x
passed-ok true f r x is = absurd (cc (is))
passed-ok false f r x is = is

-- where names stand
abbrev key_token : KeyTree → Token
key_token (index_key n c d z) = token_of n

module _ (most : ℕ) where
  abbrev Low : List Token → Type 0
  Low ts = All (λ u. u.start ≤ most) ts

  behind : (a b : List Terminal) → AreWithin most (a ++ b) → AreWithin most b
  behind [] b h = h
  behind (w ∷ a) b h = behind a b h.1

  key-within : (x : KeyTree) (rest : List Terminal) → AreWithin most (words_of_key x ++ rest) → ((key_token x).start ≤ most) × AreWithin most rest
  key-within (index_key n c d z) rest h = (h.0, behind _ rest h.1)

  further-within : (xs : List (Mark × KeyTree)) (rest : List Terminal) → AreWithin most (words_of_keys xs ++ rest) → Low (map key_token (further_parts (λ k. k) xs)) × AreWithin most rest
  further-within [] rest h = (All-nil (λ u. u.start ≤ most), h)
  further-within ((m, x) ∷ xs) rest h =
      let (here, more) = key-within x (words_of_keys xs ++ rest) (subst (AreWithin most) (append_assoc (words_of_key x) (words_of_keys xs) rest) h.1) in
      let (low, last) = further-within xs rest more in
      (All-cons (λ u. u.start ≤ most) (key_token x) (map key_token (further_parts (λ k. k) xs)) here low, last)

  keys-within : (x : KeyTree) (xs : List (Mark × KeyTree)) (rest : List Terminal) → AreWithin most (words_of_key x ++ (words_of_keys xs ++ rest)) → Low (map key_token (all_key_trees x xs)) × AreWithin most rest
  keys-within x xs rest h =
      let (here, more) = key-within x (words_of_keys xs ++ rest) h in
      let (low, last) = further-within xs rest more in
      (All-cons (λ u. u.start ≤ most) (key_token x) (map key_token (further_parts (λ k. k) xs)) here low, last)

  names-within : (ns : List (Mark × Ident)) (rest : List Terminal) → AreWithin most (words_of_names ns ++ rest) → Low (map token_of (further_parts (λ x. x) ns))
  names-within [] rest h = All-nil (λ u. u.start ≤ most)
  names-within ((m, n) ∷ ns) rest h = All-cons (λ u. u.start ≤ most) (token_of n) (map token_of (further_parts (λ x. x) ns)) h.1.0 (names-within ns rest h.1.1)

  include-within : (c : Include) (rest : List Terminal) → AreWithin most (words_of_include c ++ rest) → Low (map token_of (include_names c))
  include-within no_include rest h = All-nil (λ u. u.start ≤ most)
  include-within (include_columns k o n ns m) rest h =
      All-cons (λ u. u.start ≤ most) (token_of n) (map token_of (further_parts (λ x. x) ns)) h.1.1.0
      (names-within ns (t_mark Close m ∷ rest) (subst (AreWithin most) (append_assoc (words_of_names ns) (t_mark Close m ∷ []) rest) h.1.1.1))

  using-within : (u : Using) (rest : List Terminal) (m : MethodRead) → method_bound u ≡ Ok m → AreWithin most (words_of_using u ++ rest) → (m.at ≤ most) × AreWithin most rest
  using-within no_using rest m is h = let same : record { method = Btree; at = 0 } ≡ m = cc (is) in (subst (λ (x : MethodRead). x.at ≤ most) same (omega arith), h)
  using-within (using_method k n) rest m is h =
      let d = next-done (known _ (token_of n) (method_of_name (bytes_of n))) _ m is in
      let same : record { method = d.value; at = (token_of n).start } ≡ m = cc (d.rest) in
      (subst (λ (x : MethodRead). x.at ≤ most) same h.1.0, h.1.1)

module _ (cat : Contents) (lawful : IsLawful cat) (t : TableNo) (there : IsTable cat t) where
  abbrev columns : List Column
  columns = (table_at cat t).columns

  column-by : (name : List ℕ) (c : ColNo) (o : Option ℕ) → position (bytes_eq name) (table_at cat t).names ≡ o → option_map (λ n. record { 0 = n }) o ≡ Some c → c.0 < length columns
  column-by name c None at is = absurd (cc (is))
  column-by name c (Some n) at is =
      let within = (position-Some (bytes_eq name) (table_at cat t).names n [] at).0 in
      let width = (lawful.tables t.0 no_table there).width in
      let same : record { 0 = n } ≡ c = cc (is) in
      subst (λ (x : ColNo). x.0 < length columns) same (omega (arith, within, width))

  column-in : (n : Ident) (c : ColNo) → column_of_name cat t n ≡ Ok c → c.0 < length columns
  column-in n c is = column-by (bytes_of n) c _ refl (known-some _ (token_of n) (column_named cat t (bytes_of n)) c is)

  key-fits : (m : Method) (x : KeyTree) (b : KeyRead) → key_bound cat t m x ≡ Ok b → IsKeyOf columns m b.key
  key-fits m (index_key n c d z) b is =
      let p = next-done (column_of_name cat t n) _ b is in
      let q = next-done (class_bound m (type_at columns p.value) c) _ b p.rest in
      let same : record { key = record { col = p.value; class = q.value; descending = is_descending d; nulls_first = has_nulls_first (is_descending d) z }; token = token_of n } ≡ b = cc (q.rest) in
      subst (λ (k : KeyRead). IsKeyOf columns m k.key) same (record { column = column-in n p.value p.first; class = class-accepted m (type_at columns p.value) c q.value q.first })

  key-placed : (m : Method) (x : KeyTree) (b : KeyRead) → key_bound cat t m x ≡ Ok b → key_token x ≡ b.token
  key-placed m (index_key n c d z) b is =
      let p = next-done (column_of_name cat t n) _ b is in
      let q = next-done (class_bound m (type_at columns p.value) c) _ b p.rest in
      let same : record { key = record { col = p.value; class = q.value; descending = is_descending d; nulls_first = has_nulls_first (is_descending d) z }; token = token_of n } ≡ b = cc (q.rest) in
      ap (λ (k : KeyRead). k.token) same

  name-done : (n : Ident) (b : NamedColumn) → name_bound cat t n ≡ Ok b → (b.col.0 < length columns) × (token_of n ≡ b.token)
  name-done n b is =
      let p = next-done (column_of_name cat t n) _ b is in
      let same : record { col = p.value; token = token_of n } ≡ b = cc (p.rest) in
      (subst (λ (k : NamedColumn). k.col.0 < length columns) same (column-in n p.value p.first), ap (λ (k : NamedColumn). k.token) same)

  condition-fits : (alias : List ℕ) (w : Where) (p : Option Cond) → condition_bound (record { contents = cat; table = t; alias = alias }) w ≡ Ok p → IsPredicateOf columns p
  condition-fits alias no_where p is = let same : None ≡ p = cc (is) in subst (IsPredicateOf columns) same tt
  condition-fits alias (where_expr k e) p is =
      let s : Sight = record { contents = cat; table = t; alias = alias } in
      let d = next-done (meaning_of_expr (visible_in s) (sight_type s) e) _ p is in
      let width = (lawful.tables t.0 no_table there).width in
      let good = expr-good (visible_in s) (sight_type s) (is_first_column (length columns)) (visible-columns alias (length columns) 0 (table_at cat t).names (omega (arith, width))) e d.value d.first in
      let same : Some (pushed false d.value) ≡ p = cc (d.rest) in
      subst (IsPredicateOf columns) same (record {
        within = pushed-each (is_first_column (length columns)) false d.value ∙ good.1;
        typed = pushed-typed (sight_type s) false d.value good.0;
        pushed = pushed-form false d.value;
      })

  module _ (text : List ℕ) (n : Ident) (m : MethodRead) (x : KeyTree) (xs : List (Mark × KeyTree)) (c : Include) (keys : List KeyRead) (names : List NamedColumn) (p : Option Cond)
      (are-keys : bound_each (key_bound cat t m.method) (all_key_trees x xs) ≡ Ok keys) (are-names : bound_each (name_bound cat t) (include_names c) ≡ Ok names) where
    places-low : All (λ u. u.start ≤ length text) (map key_token (all_key_trees x xs)) → All (λ u. u.start ≤ length text) (map token_of (include_names c)) → All (λ u. u.start ≤ length text) (name_tokens keys names)
    places-low low more =
        let keyed = each-same (key_bound cat t m.method) key_token (λ k. k.token) (key-placed m.method) (all_key_trees x xs) keys are-keys in
        let named = each-same (name_bound cat t) token_of (λ k. k.token) (λ i b is. (name-done i b is).1) (include_names c) names are-names in
        All-append (λ u. u.start ≤ length text) (map (λ k. k.token) keys) (map (λ k. k.token) names) (subst (All (λ u. u.start ≤ length text)) keyed low) (subst (All (λ u. u.start ≤ length text)) named more)

    pub index-sound : IsName (bytes_of n) → (token_of n).start ≤ length text → m.at ≤ length text → All (λ u. u.start ≤ length text) (map key_token (all_key_trees x xs)) → All (λ u. u.start ≤ length text) (map token_of (include_names c)) →
        drop MOST_COLUMNS (name_tokens keys names) ≡ [] → IsPredicateOf columns p → IsSound cat text (index_reading n t m keys names p)
    index-sound name start method low more few predicate =
        let tokens = name_tokens keys names in
        let none = ap length few in
        let dropped = length-drop MOST_COLUMNS tokens in
        let count = length-append (map (λ (k : KeyRead). k.token) keys) (map (λ (k : NamedColumn). k.token) names) in
        let key-count = length-map keys (λ (k : KeyRead). k.token) in
        let name-count = length-map names (λ (k : NamedColumn). k.token) in
        let bare-keys = length-map keys (λ (k : KeyRead). k.key) in
        let bare-names = length-map names (λ (k : NamedColumn). k.col) in
        let key-columns = length-map (map (λ (k : KeyRead). k.key) keys) (λ k. k.col) in
        let all-columns = length-append (map (λ k. k.col) (map (λ (k : KeyRead). k.key) keys)) (map (λ (k : NamedColumn). k.col) names) in
        let starts = length-map tokens (λ (u : Token). u.start) in
        record {
          name = name;
          fits = record {
            table = there;
            columns = record {
              some = omega (arith, bare-keys, first-bound (key_bound cat t m.method x) (bound_each (key_bound cat t m.method) (further_parts (λ k. k) xs)) keys are-keys);
              few = omega (arith, none, dropped, count, key-count, name-count, bare-keys, bare-names);
              keys = all-map (IsKeyOf columns m.method) (λ (k : KeyRead). k.key) keys (each-holds (key_bound cat t m.method) (λ k. IsKeyOf columns m.method k.key) (key-fits m.method) (all_key_trees x xs) keys are-keys);
              include = all-map (λ (c : ColNo). c.0 < length columns) (λ (k : NamedColumn). k.col) names
                  (each-holds (name_bound cat t) (λ k. k.col.0 < length columns) (λ i b is. (name-done i b is).0) (include_names c) names are-names);
              predicate = predicate;
            };
          };
          places = omega (arith, count, key-count, name-count, bare-keys, bare-names, key-columns, all-columns, starts);
          within = All-cons (λ a. a ≤ length text) (token_of n).start (map (λ u. u.start) tokens) start (all-map (λ a. a ≤ length text) (λ (u : Token). u.start) tokens (places-low low more));
          method = method;
        }

module _ (cat : Contents) (text : List ℕ) (lawful : IsLawful cat) where
  pub cand-sound : (start : Token) (x : Cand) (r : IndexMeant) → AreNamed (words_of_cand x) → AreWithin (length text) (words_of_cand x) → meaning_of_cand cat start x ≡ Ok r → IsSound cat text r
  cand-sound start (cand_on n o t u p x xs m c w) r named low is =
      let table = next-done (table_of_name cat t) _ r is in
      let there = known-table cat text (bytes_of t) table.value _ refl (known-some _ (token_of t) (table_named cat (bytes_of t)) table.value table.first) in
      let method = next-done (method_bound u) _ r table.rest in
      let keys = next-done (bound_each (key_bound cat table.value method.value.method) (all_key_trees x xs)) _ r method.rest in
      let names = next-done (bound_each (name_bound cat table.value) (include_names c)) _ r keys.rest in
      let predicate = next-done (condition_bound (record { contents = cat; table = table.value; alias = bytes_of t }) w) _ r names.rest in
      let (few, passed) = limited-ok (drop MOST_COLUMNS (name_tokens keys.value names.value)) _ r predicate.rest in
      let done = passed-ok (has_many_atoms predicate.value) _ _ r passed in
      let same : index_reading n table.value method.value keys.value names.value predicate.value ≡ r = cc (done) in
      let (at, after-using) = using-within (length text) u _ method.value method.first low.1.1.1 in
      let (keyed, after-keys) = keys-within (length text) x xs _ after-using.1 in
      let included = include-within (length text) c (words_of_where w) after-keys.1 in
      subst (IsSound cat text) same
      (index-sound cat lawful table.value there text n method.value x xs c keys.value names.value predicate.value keys.first names.first
      (named.0 n refl) low.0 at keyed included few (condition-fits cat lawful table.value there (bytes_of t) w predicate.value predicate.first))

  -- an index that is read of the tokens between two numbers
  pub sound-as : (tokens : List Token) (from first end : ℕ) (x : Cand) (start : Token) (r : Result ReadIndex Refusal) → AreWords text from tokens → IsCandAt text tokens first end x →
      IfOk r (λ v. meaning_of_cand cat start x ≡ Ok (index_meant v)) → IfOk r (λ v. IsSound cat text (index_meant v))
  sound-as tokens from first end x start (Ok v) w at m =
      let named = subst AreNamed (sym at.words) (named-between text tokens first end (named-from text from tokens 0 w at.limits)) in
      let low = All-drop (λ (u : Token). u.start ≤ length text) first (take end tokens) (All-take (λ (u : Token). u.start ≤ length text) end tokens (starts-within text from tokens w)) in
      let placed = subst (All (λ (u : Token). u.start ≤ length text)) (sym (tokens-are (words_of_cand x) text (drop first (take end tokens)) at.words)) low in
      cand-sound start x (index_meant v) named (within-all (length text) (words_of_cand x) placed) m
  sound-as tokens from first end x start (Err e) w at m = tt
