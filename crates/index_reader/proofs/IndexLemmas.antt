-- A new index, from its name on.
use Rattle.std.proofs.Common.{◌≡◌, ℕ, Bool, true, false, List, [], ◌∷◌, ◌++◌, drop, Option, Result, Ok, Err, IfOk, IfErr, inr, cond, refl, sym, ap, ◌∙◌, subst, append-nil}
use Rattle.pg_base.specs.declared.faults.Code.TheVariants.{S2, S15}
use Rattle.pg_base.specs.declared.faults.Limit.TheVariants.{Atoms}
use Rattle.pg_base.specs.declared.faults.Fault.{Fault}
use Rattle.pg_base.specs.declared.faults.Refusal.{Refusal}
use Rattle.pg_base.specs.declared.faults.Refusal.TheVariants as refusal
use Rattle.pg_base.specs.declared.limits.TheConstants.{MOST_COLUMNS}
use Rattle.pg_base.specs.declared.numbers.TableNo.{TableNo}
use Rattle.pg_expr.specs.Cond.{Cond}
use Rattle.sql_lex.specs.declared.tokens.Token.{Token}
use Rattle.sql_grammar.specs.declared.class.Symbol.TheVariants.{Close, Open}
use Rattle.sql_grammar.specs.declared.class.Word.TheVariants.{On}
use Rattle.sql_grammar.specs.Terminals.{Terminal, Ident, t_key, t_mark, t_name}
use Rattle.sql_grammar.specs.Syntax.{Key, Mark, Where, no_where, where_expr, semicolon, text_end, KeyTree, Using, Include, Cand, cand_on, CreateIndex, index_on, Statement, empty, create_table, create_index, query, copy, sizes, column_statistics, analyze, no_explain, explain, explain_table, ordered_select, select_from, advise, advise_of, check, use_plan, unexplained, explained, grouped}
use Rattle.sql_grammar.specs.Words.{words_of, words_of_where, words_of_using, words_of_include, words_of_key, words_of_keys, words_of_cand}
use Rattle.sql_grammar.specs.Faults.{fault_at, terminals}
use Rattle.sql_grammar.specs.work.Faults.{IsWhole}
use Rattle.sql_grammar.specs.Spelled.{IsSpelled}
use Rattle.expr_reader.specs.declared.cursor.Spelled.{Spelled}
use Rattle.expr_reader.specs.Reading.{spelled}
use Rattle.expr_reader.specs.work.Reading.{BeginsName}
use Rattle.catalog.specs.Contents.{Contents}
use Rattle.catalog.specs.Tables.{table_named}
use Rattle.expr_reader.specs.work.Reads.{Reads}
use Rattle.expr_reader.proofs.ReadsLemmas.{was-read}
use Rattle.expr_reader.specs.Lists.{bound_each}
use Rattle.ddl_reader.specs.Statistics.{known, table_of_name}
use Rattle.ddl_reader.proofs.Parts.{named}
use Rattle.index_reader.specs.declared.index.ReadIndex.{ReadIndex}
use Rattle.index_reader.specs.declared.keys.KeyRead.{KeyRead}
use Rattle.index_reader.specs.declared.names.NamedColumn.{NamedColumn}
use Rattle.index_reader.specs.declared.methods.MethodRead.{MethodRead}
use Rattle.index_reader.specs.Keys.{method_bound, key_bound, all_key_trees, name_bound, include_names}
use Rattle.index_reader.specs.Meaning.{IndexMeant, condition_bound, name_tokens, limited_names, has_many_atoms, index_reading, within_limits, meaning_of_index, meaning_of_cand}
use Rattle.index_reader.specs.work.Reads.{ends_include, words_of_keys_left, index_meant}
use Rattle.index_reader.specs.work.Statements.{IsCandRefusal, IsIndexMeaning, IsCreateRefusal}
use Rattle.ddl_reader.specs.work.Statements.{begins_index}
use Rattle.expr_reader.proofs.StepLemmas.{step, stop}
use Rattle.index_reader.proofs.VisibleLemmas.{sight}

-- the words behind the keys, and from the first key on
abbrev pub behind : Include → Where → List Terminal
behind c w = words_of_include c ++ (words_of_where w ++ [])

abbrev pub body : KeyTree → List (Mark × KeyTree) → Mark → Include → Where → List Terminal
body x xs m c w = words_of_keys_left x xs m (behind c w)

pub include-end : (w : Where) → ends_include (words_of_where w ++ []) ≡ true
include-end no_where = refl
include-end (where_expr k c) = refl

-- the new name and the table's are taken
pub opened : (n : Ident) (o : Key) (t : Ident) (u : Using) (p : Mark) (x : KeyTree) (xs : List (Mark × KeyTree)) (m : Mark) (c : Include) (w : Where) (first second third last : List Terminal) (s q : Spelled) →
    first ≡ words_of_cand (cand_on n o t u p x xs m c w) → BeginsName s first second → third ≡ drop 1 second → BeginsName q third last →
    (s ≡ spelled n) × (q ≡ spelled t) × (last ≡ words_of_using u ++ t_mark Open p ∷ body x xs m c w)
opened n o t u p x xs m c w first second third last s q is begins again follows =
    let from : List Terminal → List Terminal = λ ws. words_of_using u ++ t_mark Open p ∷ (words_of_key x ++ (words_of_keys xs ++ t_mark Close m ∷ (words_of_include c ++ ws))) in
    let one = named n (t_key On o ∷ t_name t ∷ from (words_of_where w)) s first second is begins in
    let two = named t (from (words_of_where w)) q third last (again ∙ ap (drop 1) one.1) follows in
    (one.0, two.0, two.1 ∙ ap from (sym (append-nil (words_of_where w))))

-- the table that is given
pub table-told : (cat : Contents) (t : Ident) (s : Spelled) (r : Result TableNo Fault) → s ≡ spelled t → r ≡ known S2 s.token (table_named cat s.bytes) → table_of_name cat t ≡ r
table-told cat t s r is told = ap (λ (x : Spelled). known S2 x.token (table_named cat x.bytes)) (sym is) ∙ sym told

-- the limits
limited-wrong : {A : Type 0} (ts : List Token) (r : Result A Fault) (f : Fault) → limited_names {A = Unit {0}} ts (Ok tt) ≡ Err f → limited_names ts r ≡ Err f
limited-wrong [] r f is = absurd (cc (is))
limited-wrong (t ∷ ts) r f is = let same : fault_at _ t ≡ f = cc (is) in ap Err same

limited-right : {A : Type 0} (ts : List Token) (r : Result A Fault) → limited_names {A = Unit {0}} ts (Ok tt) ≡ Ok tt → limited_names ts r ≡ r
limited-right [] r is = refl
limited-right (t ∷ ts) r is = absurd (cc (is))

passed-wrong : {A : Type 0} (b : Bool) (g f : Fault) (r : Result A Fault) → cond {A = Result (Unit {0}) Fault} b (Err g) (Ok tt) ≡ Err f → cond b (Err g) r ≡ Err f
passed-wrong true g f r is = let same : g ≡ f = cc (is) in ap Err same
passed-wrong false g f r is = absurd (cc (is))

passed-right : {A : Type 0} (b : Bool) (g : Fault) (r : Result A Fault) → cond {A = Result (Unit {0}) Fault} b (Err g) (Ok tt) ≡ Ok tt → cond b (Err g) r ≡ r
passed-right true g r is = absurd (cc (is))
passed-right false g r is = refl

module _ (start : Token) (n : Ident) (t : TableNo) (m : MethodRead) (keys : List KeyRead) (names : List NamedColumn) (p : Option Cond) where
  abbrev Columns : Result (Unit {0}) Fault → Type 0
  Columns r = limited_names (drop MOST_COLUMNS (name_tokens keys names)) (Ok tt) ≡ r

  abbrev AtomsAre : Result (Unit {0}) Fault → Type 0
  AtomsAre r = cond (has_many_atoms p) (Err (fault_at (S15 Atoms) start)) (Ok tt) ≡ r

  pub columns-wrong : (f : Fault) → Columns (Err f) → within_limits start n t m keys names p ≡ Err f
  columns-wrong f is = limited-wrong (drop MOST_COLUMNS (name_tokens keys names)) _ f is

  pub atoms-wrong : (f : Fault) → Columns (Ok tt) → AtomsAre (Err f) → within_limits start n t m keys names p ≡ Err f
  atoms-wrong f few is = limited-right (drop MOST_COLUMNS (name_tokens keys names)) _ few ∙ passed-wrong (has_many_atoms p) _ f _ is

  pub all-within : Columns (Ok tt) → AtomsAre (Ok tt) → within_limits start n t m keys names p ≡ Ok (index_reading n t m keys names p)
  all-within few is = limited-right (drop MOST_COLUMNS (name_tokens keys names)) _ few ∙ passed-right (has_many_atoms p) _ _ is

-- what is bound so far
module _ (cat : Contents) (start : Token) (n : Ident) (o : Key) (t : Ident) (u : Using) (p : Mark) (x : KeyTree) (xs : List (Mark × KeyTree)) (m : Mark) (c : Include) (w : Where) where
  abbrev whole : Result IndexMeant Fault
  whole = meaning_of_cand cat start (cand_on n o t u p x xs m c w)

  module _ (table : TableNo) (found : table_of_name cat t ≡ Ok table) where
    pub method-wrong : (f : Fault) → method_bound u ≡ Err f → whole ≡ Err f
    method-wrong f wrong = step (table_of_name cat t) _ table found ∙ stop (method_bound u) _ f wrong

    module _ (method : MethodRead) (using : method_bound u ≡ Ok method) where
      pub keys-wrong : (f : Fault) → bound_each (key_bound cat table method.method) (all_key_trees x xs) ≡ Err f → whole ≡ Err f
      keys-wrong f wrong = step (table_of_name cat t) _ table found ∙ (step (method_bound u) _ method using ∙ stop (bound_each (key_bound cat table method.method) (all_key_trees x xs)) _ f wrong)

      module _ (keys : List KeyRead) (keyed : bound_each (key_bound cat table method.method) (all_key_trees x xs) ≡ Ok keys) where
        pub names-wrong : (f : Fault) → bound_each (name_bound cat table) (include_names c) ≡ Err f → whole ≡ Err f
        names-wrong f wrong =
            step (table_of_name cat t) _ table found ∙ (step (method_bound u) _ method using ∙
            (step (bound_each (key_bound cat table method.method) (all_key_trees x xs)) _ keys keyed ∙ stop (bound_each (name_bound cat table) (include_names c)) _ f wrong))

        module _ (names : List NamedColumn) (included : bound_each (name_bound cat table) (include_names c) ≡ Ok names) where
          pub condition-wrong : (f : Fault) → condition_bound (sight cat table (spelled t).bytes) w ≡ Err f → whole ≡ Err f
          condition-wrong f wrong =
              step (table_of_name cat t) _ table found ∙ (step (method_bound u) _ method using ∙
              (step (bound_each (key_bound cat table method.method) (all_key_trees x xs)) _ keys keyed ∙
              (step (bound_each (name_bound cat table) (include_names c)) _ names included ∙ stop (condition_bound (sight cat table (spelled t).bytes) w) _ f wrong)))

          pub all-bound : (q : Option Cond) → condition_bound (sight cat table (spelled t).bytes) w ≡ Ok q → whole ≡ within_limits start n table method keys names q
          all-bound q condition =
              step (table_of_name cat t) _ table found ∙ (step (method_bound u) _ method using ∙
              (step (bound_each (key_bound cat table method.method) (all_key_trees x xs)) _ keys keyed ∙
              (step (bound_each (name_bound cat table) (include_names c)) _ names included ∙ step (condition_bound (sight cat table (spelled t).bytes) w) _ q condition)))

-- any candidate by its words
pub parts-of : (y : Cand) (old : List Terminal) → old ≡ words_of_cand y →
    (n : Ident) × (o : Key) × (t : Ident) × (u : Using) × (p : Mark) × (x : KeyTree) × (xs : List (Mark × KeyTree)) × (m : Mark) × (c : Include) × (w : Where) × (old ≡ words_of_cand (cand_on n o t u p x xs m c w))
parts-of (cand_on n o t u p x xs m c w) old is = (n, o, t, u, p, x, xs, m, c, w, is)

pub every-cand : (cat : Contents) (start : Token) (old : List Terminal) (r : Result ReadIndex Refusal) →
    ((n : Ident) (o : Key) (t : Ident) (u : Using) (p : Mark) (x : KeyTree) (xs : List (Mark × KeyTree)) (m : Mark) (c : Include) (w : Where) →
    old ≡ words_of_cand (cand_on n o t u p x xs m c w) → Reads index_meant (meaning_of_cand cat start (cand_on n o t u p x xs m c w)) [] r []) →
    (y : Cand) → old ≡ words_of_cand y → Reads index_meant (meaning_of_cand cat start y) [] r []
every-cand cat start old r told (cand_on n o t u p x xs m c w) is = told n o t u p x xs m c w is

-- a statement that begins with CREATE INDEX is one
pub is-index : (x : Statement) (ts : List Terminal) → words_of x ≡ ts → begins_index ts ≡ true → (y : CreateIndex) × (x ≡ create_index y)
is-index (create_index y) ts is opens = (y, refl)
is-index (empty (semicolon t)) ts is opens = let wrong = ap begins_index is ∙ opens in absurd (cc (wrong))
is-index (empty (text_end t)) ts is opens = let wrong = ap begins_index is ∙ opens in absurd (cc (wrong))
is-index (create_table k t n o c cs m e) ts is opens = let wrong = ap begins_index is ∙ opens in absurd (cc (wrong))
is-index (query (ordered_select no_explain (select_from k o os f n a w) y v e)) ts is opens = let wrong = ap begins_index is ∙ opens in absurd (cc (wrong))
is-index (query (ordered_select (explain k) q y v e)) ts is opens = let wrong = ap begins_index is ∙ opens in absurd (cc (wrong))
is-index (query (ordered_select (explain_table p k a t b) q y v e)) ts is opens = let wrong = ap begins_index is ∙ opens in absurd (cc (wrong))
is-index (advise (advise_of p k n o c cs m x xs e)) ts is opens = let wrong = ap begins_index is ∙ opens in absurd (cc (wrong))
is-index (check p k x e) ts is opens = let wrong = ap begins_index is ∙ opens in absurd (cc (wrong))
is-index (use_plan p u k q y e) ts is opens = let wrong = ap begins_index is ∙ opens in absurd (cc (wrong))
is-index (grouped p unexplained k q) ts is opens = let wrong = ap begins_index is ∙ opens in absurd (cc (wrong))
is-index (grouped p (explained t) k q) ts is opens = let wrong = ap begins_index is ∙ opens in absurd (cc (wrong))
is-index (copy k n null) ts is opens = let wrong = ap begins_index is ∙ opens in absurd (cc (wrong))
is-index (sizes k n rows pages e) ts is opens = let wrong = ap begins_index is ∙ opens in absurd (cc (wrong))
is-index (column_statistics k n c d z m h e) ts is opens = let wrong = ap begins_index is ∙ opens in absurd (cc (wrong))
is-index (analyze p k n e) ts is opens = let wrong = ap begins_index is ∙ opens in absurd (cc (wrong))

-- the CREATE INDEX that the tokens spell
pub record Indexing (text : List ℕ) (tokens : List Token) : Type 0 where
  pub tree : CreateIndex
  pub spelled : IsSpelled (create_index tree) text tokens

pub indexing : (text : List ℕ) (tokens : List Token) → IsWhole text tokens → begins_index (terminals text tokens) ≡ true → Indexing text tokens
indexing text tokens given opens =
    let (x, low, words) = given.statement in
    let (y, is) = is-index x (terminals text tokens) words opens in
    record { tree = y; spelled = subst (λ z. IsSpelled z text tokens) is (record { words = words; limits = given.within; levels = low }) }

-- an index that is read is meant
pub meant-as : (cat : Contents) (text : List ℕ) (tokens : List Token) (r : Result ReadIndex Refusal) (given : Indexing text tokens) → Reads index_meant (meaning_of_index cat given.tree) [] r [] → IfOk r (λ v. IsIndexMeaning cat text tokens (Ok (index_meant v)))
meant-as cat text tokens (Ok v) given told = record { statement = given.tree; spelled = given.spelled; means = (was-read ReadIndex IndexMeant index_meant (meaning_of_index cat given.tree) v [] [] told).meant }
meant-as cat text tokens (Err e) given told = tt

pub fault-by : (m : Result IndexMeant Fault) (f : Fault) → Reads {T = ReadIndex} {A = IndexMeant} index_meant m [] (Err (refusal.Fault f)) [] → m ≡ Err f
fault-by (Ok a) f told = absurd told
fault-by (Err g) f told = ap Err (sym told)

-- an index that is refused after its syntax
pub refused-as : (cat : Contents) (text : List ℕ) (tokens : List Token) (r : Result ReadIndex Refusal) (given : Indexing text tokens) → Reads index_meant (meaning_of_index cat given.tree) [] r [] → IfErr r (IsCreateRefusal cat text tokens)
refused-as cat text tokens (Ok v) given told = tt
refused-as cat text tokens (Err refusal.Memory) given told = (given.tree, given.spelled)
refused-as cat text tokens (Err (refusal.Fault f)) given told = inr (record { statement = given.tree; spelled = given.spelled; means = fault-by (meaning_of_index cat given.tree) f told })

-- a candidate that is read, or refused
pub cand-read : (m : Result IndexMeant Fault) (r : Result ReadIndex Refusal) → Reads index_meant m [] r [] → IfOk r (λ v. m ≡ Ok (index_meant v))
cand-read m (Ok v) told = (was-read ReadIndex IndexMeant index_meant m v [] [] told).meant
cand-read m (Err e) told = tt

pub cand-refused : (m : Result IndexMeant Fault) (r : Result ReadIndex Refusal) → Reads index_meant m [] r [] → IfErr r (IsCandRefusal m)
cand-refused m (Ok v) told = tt
cand-refused m (Err refusal.Memory) told = tt
cand-refused m (Err (refusal.Fault f)) told = fault-by m f told
