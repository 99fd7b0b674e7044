-- The tokens of a statement that is no other than a SELECT, and its first fault.
use Rattle.std.proofs.Common.{◌≡◌, ◌⊎◌, inl, inr, ℕ, Bool, List, [], ◌∷◌, ◌++◌, true, false, refl, None, All, sym, ap, subst, ◌∙◌, arith, append_assoc}
use Rattle.std.proofs.lemmas.List.{map-append}
use Rattle.std.proofs.lemmas.List.Elements.{All-tail}
use Rattle.pg_base.specs.declared.faults.Code.{Code}
use Rattle.pg_base.specs.declared.faults.Code.TheVariants.{S1, S15}
use Rattle.pg_base.specs.declared.faults.Limit.TheVariants.{Depth}
use Rattle.pg_base.specs.declared.faults.Fault.{Fault}
use Rattle.pg_base.specs.declared.limits.TheConstants.{MOST_LEVELS}
use Rattle.sql_lex.specs.declared.tokens.Token.{Token}
use Rattle.sql_grammar.specs.declared.class.Free.TheVariants.{Explain}
use Rattle.sql_grammar.specs.Terminals.{Terminal, free, t_name}
use Rattle.sql_grammar.specs.Reading.{terminal_of}
use Rattle.sql_grammar.specs.declared.offered.TheConstants.{READS_GROUPS}
use Rattle.sql_grammar.specs.Syntax.{GroupedSelect, IsOffered, MaybeExplain, OrderedSelect, semicolon, text_end, index_on, Statement, empty, create_table, create_index, query, copy, sizes, column_statistics, analyze, advise, advise_of, check, use_plan, grouped}
use Rattle.sql_grammar.specs.Faults.{IsStatement, IsPrefix, IsAtFault, IsFirstFault, AreWithinLimits, terminals, limit_of}
use Rattle.sql_grammar.specs.work.Faults.{IsWhole}
use Rattle.sql_grammar.specs.Spelled.{IsSpelled}
use Rattle.sql_grammar.specs.Words.{words_of}
use Rattle.sql_grammar.proofs.StatementTrees.{one_tree}
use Rattle.query_reader.specs.work.Select.{AreGrouped, AreNoOther, AreSelect, begins_query, is_explained, is_query}
use Rattle.expr_reader.specs.work.Reading.{Begins, BeginsNot}

-- EXPLAIN is the first word, or it is not
unexplained : (ts : List Terminal) → BeginsNot (λ token. t_name (free Explain token)) ts → false ≡ is_explained ts
unexplained [] other = refl
unexplained (t_name (free Explain t) ∷ rest) other = absurd (other rest (t, refl))
unexplained (_ ∷ rest) other = refl

pub explained-by : (b : Bool) (ts old new : List Terminal) → old ≡ ts → (b ≡ true → Begins (λ token. t_name (free Explain token)) old new) → (b ≡ false → BeginsNot (λ token. t_name (free Explain token)) old) → b ≡ is_explained ts
explained-by true ts old new is took other = let (t, e) = took refl in sym (ap is_explained (sym is ∙ e))
explained-by false ts old new is took other = unexplained old (other refl) ∙ ap is_explained is

-- a statement that begins with SELECT or EXPLAIN
pub no-other : (x : Statement) (ts : List Terminal) → words_of x ≡ ts → begins_query ts ≡ true → is_query x ≡ true
no-other (query x) ts is begins = refl
no-other (empty (semicolon t)) ts is begins = let wrong = ap begins_query is ∙ begins in absurd (cc (wrong))
no-other (empty (text_end t)) ts is begins = let wrong = ap begins_query is ∙ begins in absurd (cc (wrong))
no-other (create_table k t n o c cs m e) ts is begins = let wrong = ap begins_query is ∙ begins in absurd (cc (wrong))
no-other (create_index (index_on k i n o t u p x xs m c w e)) ts is begins = let wrong = ap begins_query is ∙ begins in absurd (cc (wrong))
no-other (copy k n null) ts is begins = let wrong = ap begins_query is ∙ begins in absurd (cc (wrong))
no-other (sizes k n r p e) ts is begins = let wrong = ap begins_query is ∙ begins in absurd (cc (wrong))
no-other (column_statistics k n c d z m h e) ts is begins = let wrong = ap begins_query is ∙ begins in absurd (cc (wrong))
no-other (analyze p k n e) ts is begins = let wrong = ap begins_query is ∙ begins in absurd (cc (wrong))
no-other (advise (advise_of p k n o c cs m x xs e)) ts is begins = let wrong = ap begins_query is ∙ begins in absurd (cc (wrong))
no-other (check p k x s) ts is begins = let wrong = ap begins_query is ∙ begins in absurd (cc (wrong))
no-other (use_plan p u l q y s) ts is begins = let wrong = ap begins_query is ∙ begins in absurd (cc (wrong))
no-other (grouped p u l q) ts is begins = refl

-- a statement that is a SELECT that groups
pub record GroupsSo (x : Statement) : Type 0 where
  pub offered : IsOffered READS_GROUPS
  pub explaining : MaybeExplain
  pub word : Token
  pub select : GroupedSelect
  pub is : x ≡ grouped offered explaining word select

-- a statement that is a SELECT of either form
pub its-query : (x : Statement) → is_query x ≡ true → ((q : OrderedSelect) × (x ≡ query q)) ⊎ GroupsSo x
its-query (query q) is = inl (q, refl)
its-query (grouped p e k q) is = inr (record { offered = p; explaining = e; word = k; select = q; is = refl })
its-query _ is = absurd (cc (is))

-- a whole statement is spelled
pub spelled-whole : (text : List ℕ) (tokens : List Token) (whole : IsWhole text tokens) → IsSpelled whole.statement.0 text tokens
spelled-whole text tokens whole = record { words = whole.statement.2; limits = whole.within; levels = whole.statement.1 }

-- tokens that are some statement are a SELECT of the form that it has
form-of : (text : List ℕ) (tokens : List Token) (x : Statement) → IsSpelled x text tokens → ((q : OrderedSelect) × (x ≡ query q)) ⊎ GroupsSo x → AreSelect text tokens ⊎ AreGrouped text tokens
form-of text tokens x spelled (inl (q, same)) = inl (q, subst (λ (s : Statement). IsSpelled s text tokens) same spelled)
form-of text tokens x spelled (inr g) =
    inr (record { offered = g.offered; explaining = g.explaining; word = g.word; select = g.select; spelled = subst (λ (s : Statement). IsSpelled s text tokens) g.is spelled })

-- a whole statement that is no other one is a SELECT of either form
pub whole-query : (text : List ℕ) (tokens : List Token) → IsWhole text tokens → AreNoOther text tokens → AreSelect text tokens ⊎ AreGrouped text tokens
whole-query text tokens whole kind =
    form-of text tokens whole.statement.0 (spelled-whole text tokens whole) (its-query whole.statement.0 (kind whole.statement.0 whole.statement.2))

-- tokens have one form
pub forms-apart : (text : List ℕ) (tokens : List Token) → AreSelect text tokens → AreGrouped text tokens → ⊥
forms-apart text tokens (q, spelled) g =
    let same = one_tree (query q) (grouped g.offered g.explaining g.word g.select) (spelled.words ∙ sym g.spelled.words) in
    absurd (cc (same))

middle : (P : Terminal → Type 0) (xs : List Terminal) (x : Terminal) (ys : List Terminal) → All P (xs ++ x ∷ ys) → P x
middle P [] x ys h = h 0 x (omega arith)
middle P (z ∷ xs) x ys h = middle P xs x ys (All-tail P z (xs ++ x ∷ ys) h)

excluded-by : (before : List Terminal) (t : Terminal) (code : Code) → IsPrefix IsStatement MOST_LEVELS (before ++ t ∷ []) → limit_of t ≡ None → IsAtFault IsStatement before t code → ⊥
excluded-by before t S1 goes within c = c MOST_LEVELS goes
excluded-by before t (S15 Depth) goes within c = c.0 goes
excluded-by before t (S15 _) goes within c = let past = c.1 in cc (within, past)
excluded-by before t _ goes within c = c

-- a statement within the limits has no fault of the grammar
pub excluded : (text : List ℕ) (tokens : List Token) (fault : Fault) (x : Statement) → IsFirstFault IsStatement text tokens fault → IsSpelled x text tokens → ⊥
excluded text tokens fault x f w =
    let before = terminals text f.before in
    let t = terminal_of text f.token in
    let after = terminals text f.after in
    let parts : terminals text tokens ≡ before ++ t ∷ after = ap (terminals text) f.split ∙ map-append (terminal_of text) f.before (f.token ∷ f.after) in
    excluded-by before t fault.code (after, (x, w.levels, w.words ∙ (parts ∙ sym (append_assoc before (t ∷ []) after))))
    (middle (λ t. limit_of t ≡ None) before t after (subst AreWithinLimits parts w.limits)) f.cause
