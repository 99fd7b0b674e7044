-- CHECK and USE PLAN: the query and the lines behind it, or why the statement is refused.
use Rattle.std.proofs.Common.{◌≡◌, ◌<◌, ℕ, Bool, true, false, List, [], ◌∷◌, ◌++◌, length, drop, slice_range, None, Option, Some, Result, Ok, Err, IfOk, inl, refl, sym, ap, subst, ◌∙◌, arith}
use Rattle.std.proofs.lemmas.List.{length-map}
use Rattle.pg_base.specs.declared.faults.Fault.{Fault}
use Rattle.pg_base.specs.declared.faults.Limit.{Limit}
use Rattle.pg_base.specs.declared.faults.Refusal.{Refusal}
use Rattle.pg_base.specs.declared.faults.Refusal.TheVariants as refusal
use Rattle.catalog.specs.Range.{type_in}
use Rattle.eq_classes.specs.Clauses.{ClassTable}
use Rattle.eq_classes.specs.Holding.{IsClassTable}
use Rattle.sql_lex.specs.declared.tokens.Token.{Token}
use Rattle.sql_lex.specs.Ends.{end_of, token_at}
use Rattle.expr_reader.specs.work.Reading.{Begins, BeginsNot}
use Rattle.sql_grammar.specs.CopyLine.{IsDataStart}
use Rattle.sql_grammar.specs.FromParts.{groups_after}
use Rattle.sql_grammar.specs.Reading.{terminal_of}
use Rattle.sql_grammar.specs.Terminals.{Terminal, free, t_name}
use Rattle.sql_grammar.specs.declared.class.Free.{Free}
use Rattle.sql_grammar.specs.declared.class.Free.TheVariants.{Check as CheckWord, Use as UseWord}
use Rattle.sql_grammar.specs.declared.offered.TheConstants.{READS_CHECK, READS_PLAN}
use Rattle.sql_grammar.specs.Syntax.{IsOffered, OrderBy, Select, select_from, semicolon, text_end, no_explain, explain, explain_table, unexplained, explained, ordered_select, index_on, no_limit, no_offset, window, Where, WindowedSelect, windowed_select, Statement, empty, create_table, create_index, query, copy, sizes, column_statistics, analyze, advise, advise_of, check, use_plan, grouped}
use Rattle.sql_grammar.specs.Words.{words_of}
use Rattle.sql_grammar.specs.Faults.{IsFirstFault, IsStatement, terminals}
use Rattle.sql_grammar.specs.work.Faults.{IsWhole}
use Rattle.sql_grammar.specs.Spelled.{IsSpelled}
use Rattle.ddl_reader.specs.Block.{HaveNoMark, IsBlockEnd, lines_of}
use Rattle.expr_reader.specs.Conditions.{next as following}
use Rattle.query_reader.specs.Binding.{Bound, bound_over, bound_part, conjuncts_written, limited, list_columns, past_limit, query_with}
use Rattle.query_reader.specs.From.{Joined, nothing_joined, with_groups}
use Rattle.query_reader.specs.Order.{order_items}
use Rattle.query_reader.specs.work.Parts.{IsSelectAt}
use Rattle.query_reader.specs.Scope.{scope_of}
use Rattle.query_reader.specs.Select.{words_before}
use Rattle.query_reader.specs.work.Select.{IsBoundAs}
use Rattle.query_reader.specs.Written.{item_of, items_of}
use Rattle.query_reader.specs.declared.written.Item.{Item}
use Rattle.query_reader.proofs.GrammarLemmas.{spelled-whole}
use Rattle.query_reader.proofs.PlaceLemmas.{statement-select}
use Rattle.sql_query.specs.Queries.{Query}
use Rattle.sql_query.specs.WellBound.{given_of}
use Rattle.sql_query.specs.Worlds.{World}
use Rattle.statements.specs.declared.claims.Given.{Given}
use Rattle.statements.specs.declared.claims.Given.TheVariants.{Certificate, Plan}
use Rattle.statements.specs.declared.end.End.TheVariants as ends
use Rattle.statements.specs.Accepted.{Does, IsReadOver}
use Rattle.statements.specs.work.Claims.{IsWholeFor, action_for, begins_for, words_for}
use Rattle.statements.specs.work.Ending.{end_of_refusal}
use Rattle.statements.specs.Faults.{IsCheckFault, IsMeaningFault, endless_fault, in_line, in_meaning, in_select, in_syntax, without_end}
use Rattle.statements.specs.work.Steps.{Refuses, begins_check, begins_use}
use Rattle.statements.proofs.BindingLemmas.{part-plain}
use Rattle.statements.proofs.PlaceLemmas.{check-end, use-end}
use Rattle.statements.proofs.PlainLemmas.{IsPlain, first-plain, plain-field}
use Rattle.statements.proofs.QueryLemmas.{first-token, meant-fault, meant-ok}

-- a word is the first one, or it is not
pub no-check : (ts : List Terminal) → BeginsNot (λ token. t_name (free CheckWord token)) ts → false ≡ begins_check ts
no-check [] other = refl
no-check (t_name (free CheckWord t) ∷ rest) other = absurd (other rest (t, refl))
no-check (_ ∷ rest) other = refl

pub no-use : (ts : List Terminal) → BeginsNot (λ token. t_name (free UseWord token)) ts → false ≡ begins_use ts
no-use [] other = refl
no-use (t_name (free UseWord t) ∷ rest) other = absurd (other rest (t, refl))
no-use (_ ∷ rest) other = refl

module _ (word : Free) (begins : List Terminal → Bool) (is : (t : Token) (ts : List Terminal) → begins (t_name (free word t) ∷ ts) ≡ true) (not : (ts : List Terminal) → BeginsNot (λ token. t_name (free word token)) ts → false ≡ begins ts) where
  pub begins-by : (b : Bool) (ts old new : List Terminal) → old ≡ ts → (b ≡ true → Begins (λ token. t_name (free word token)) old new) → (b ≡ false → BeginsNot (λ token. t_name (free word token)) old) → b ≡ begins ts
  begins-by true ts old new same took other = let (t, e) = took refl in sym (ap begins (sym same ∙ e) ∙ is t new)
  begins-by false ts old new same took other = not old (other refl) ∙ ap begins same

-- the tokens are a statement with a SELECT and lines behind it
pub record IsClaim (given : Given) (w : World) (text : List ℕ) (tokens : List Token) : Type 0 where
  pub statement : Statement
  pub select : WindowedSelect
  pub stop : Token
  pub spelled : IsSpelled statement text tokens
  pub ends : stop.end ≡ end_of tokens
  pub at : IsSelectAt text tokens (words_for given) select
  pub within : words_for given < length tokens
  pub whole : (b : Bound) (classes : ClassTable) → bound_part w.contents (token_at tokens 0) select ≡ Ok b → IsWholeFor given (query_with classes b)
  pub faults : (f : Fault) → IsCheckFault w text tokens select stop f → IsMeaningFault w text tokens statement f
  pub does : (start end next : ℕ) (b : Bound) (classes : ClassTable) → IsDataStart text stop.end (Ok start) → bound_part w.contents (token_at tokens 0) select ≡ Ok b → IsBlockEnd text start end next →
      IsClassTable (given_of w.contents (query_with classes b)) classes → Does w text tokens statement (action_for given (query_with classes b) (slice_range text start end)) next

-- a SELECT without LIMIT and OFFSET means a query without a window
record IsWindowless (r : Result Bound Fault) : Type 0 where
  none : IfOk r (λ b. b.window ≡ None)

windowless-after : {A : Type 0} → (r : Result A Fault) (more : A → Result Bound Fault) → ((x : A) → IsWindowless (more x)) → IsWindowless (following r more)
windowless-after (Ok x) more all = all x
windowless-after (Err f) more all = record { none = tt }

windowless-within : (start : Token) (past : Option Limit) (b : Bound) → b.window ≡ None → IsWindowless (limited start past b)
windowless-within start None b is = record { none = is }
windowless-within start (Some limit) b is = record { none = tt }

windowless-meant : (r : Result Bound Fault) (b : Bound) → r ≡ Ok b → IsWindowless r → b.window ≡ None
windowless-meant (Ok x) b same is = let one : x ≡ b = cc in subst (λ (y : Bound). y.window ≡ None) one is.none
windowless-meant (Err f) b same is = absurd (cc (same))

windowless-over : (start : Token) (items : List Item) (condition : Where) (order : OrderBy) (j : Joined) → IsWindowless (bound_over start items condition order (window no_limit no_offset) j)
windowless-over start items condition order j =
    let scope = scope_of j.contents j.range in
    windowless-after (conjuncts_written scope (type_in j.contents j.range) condition) _ (λ conjuncts.
    windowless-after (list_columns scope items) _ (λ columns.
    windowless-after (order_items scope columns order) _ (λ ordered.
    windowless-within start (past_limit (j.conjuncts ++ conjuncts)) (record { range = j.range; select = columns; where_all = j.conjuncts ++ conjuncts; order = ordered; window = None }) refl)))

module _ (w : World) (text : List ℕ) (tokens : List Token) where
  no-window : (q : Select) (y : OrderBy) (b : Bound) → bound_part w.contents (token_at tokens 0) (windowed_select q y (window no_limit no_offset)) ≡ Ok b → b.window ≡ None
  no-window (select_from k o os m g gs c) y b means =
      windowless-meant (bound_part w.contents (token_at tokens 0) (windowed_select (select_from k o os m g gs c) y (window no_limit no_offset))) b means
      (windowless-after (with_groups (nothing_joined w.contents) (g ∷ groups_after gs)) (bound_over (token_at tokens 0) (item_of o ∷ items_of os) c y (window no_limit no_offset))
      (windowless-over (token_at tokens 0) (item_of o ∷ items_of os) c y))

  many-words : (s : Statement) → IsSpelled s text tokens → length (words_of s) ≡ length tokens
  many-words s spelled = ap length spelled.words ∙ length-map tokens (terminal_of text)

  some-check : (p : IsOffered READS_CHECK) (k : Token) (x : WindowedSelect) (s : Token) → 1 < length (words_of (check p k x s))
  some-check p k (windowed_select (select_from z o os m g gs c) y v) s = omega arith

  some-use : (p : IsOffered READS_PLAN) (u l : Token) (q : Select) (y : OrderBy) (s : Token) → 2 < length (words_of (use_plan p u l q y s))
  some-use p u l (select_from z o os m g gs c) y s = omega arith

  select-at : (given : Given) (s : Statement) (x : WindowedSelect) → words_before (words_of s) ≡ words_for given → IsSelectAt text tokens (words_before (terminals text tokens)) x → IsSpelled s text tokens → IsSelectAt text tokens (words_for given) x
  select-at given s x many at spelled = subst (λ (n : ℕ). IsSelectAt text tokens n x) (ap words_before (sym spelled.words) ∙ many) at

  check-claim : (p : IsOffered READS_CHECK) (k : Token) (x : WindowedSelect) (s : Token) → IsSpelled (check p k x s) text tokens → IsClaim Certificate w text tokens
  check-claim p k x s spelled = record {
    statement = check p k x s;
    select = x;
    stop = s;
    spelled = spelled;
    ends = check-end text tokens p k x s spelled.words;
    at = select-at Certificate (check p k x s) x refl (statement-select (check p k x s) x text tokens refl spelled) spelled;
    within = let few = some-check p k x s in omega (arith, few, many-words (check p k x s) spelled);
    whole = λ b classes means. tt;
    faults = λ f is. is;
    does = λ start end next b classes begins means block own. record { start = start; end = end; meant = b; classes = classes; begins = begins; means = means; ends = block; own = own; acts = refl };
  }

  use-claim : (p : IsOffered READS_PLAN) (u l : Token) (q : Select) (y : OrderBy) (s : Token) → IsSpelled (use_plan p u l q y s) text tokens → IsClaim Plan w text tokens
  use-claim p u l q y s spelled = record {
    statement = use_plan p u l q y s;
    select = windowed_select q y (window no_limit no_offset);
    stop = s;
    spelled = spelled;
    ends = use-end text tokens p u l q y s spelled.words;
    at = select-at Plan (use_plan p u l q y s) (windowed_select q y (window no_limit no_offset)) refl (statement-select (use_plan p u l q y s) (windowed_select q y (window no_limit no_offset)) text tokens refl spelled) spelled;
    within = let few = some-use p u l q y s in omega (arith, few, many-words (use_plan p u l q y s) spelled);
    whole = λ b classes means. no-window q y b means;
    faults = λ f is. is;
    does = λ start end next b classes begins means block own. record { start = start; end = end; meant = b; classes = classes; begins = begins; means = means; ends = block; own = own; acts = refl };
  }

  -- a statement that begins with CHECK, or with USE, is one
  is-check : (x : Statement) → IsSpelled x text tokens → begins_check (words_of x) ≡ true → IsClaim Certificate w text tokens
  is-check (check p k x s) spelled opens = check-claim p k x s spelled
  is-check (empty (semicolon t)) spelled opens = absurd (cc (opens))
  is-check (empty (text_end t)) spelled opens = absurd (cc (opens))
  is-check (create_table k t n o c cs m e) spelled opens = absurd (cc (opens))
  is-check (create_index (index_on k i n o t u p x xs m c z e)) spelled opens = absurd (cc (opens))
  is-check (query (ordered_select no_explain (select_from k o os f n a c) y v e)) spelled opens = absurd (cc (opens))
  is-check (query (ordered_select (explain k) q y v e)) spelled opens = absurd (cc (opens))
  is-check (query (ordered_select (explain_table p k a t b) q y v e)) spelled opens = absurd (cc (opens))
  is-check (copy k n null) spelled opens = absurd (cc (opens))
  is-check (sizes k n rows pages e) spelled opens = absurd (cc (opens))
  is-check (column_statistics k n c d z m h e) spelled opens = absurd (cc (opens))
  is-check (analyze p k n e) spelled opens = absurd (cc (opens))
  is-check (advise (advise_of p k n o c cs m x xs e)) spelled opens = absurd (cc (opens))
  is-check (use_plan p u k q y e) spelled opens = absurd (cc (opens))
  is-check (grouped p unexplained k q) spelled opens = absurd (cc (opens))
  is-check (grouped p (explained t) k q) spelled opens = absurd (cc (opens))

  is-use : (x : Statement) → IsSpelled x text tokens → begins_use (words_of x) ≡ true → IsClaim Plan w text tokens
  is-use (use_plan p u k q y s) spelled opens = use-claim p u k q y s spelled
  is-use (check p k x s) spelled opens = absurd (cc (opens))
  is-use (empty (semicolon t)) spelled opens = absurd (cc (opens))
  is-use (empty (text_end t)) spelled opens = absurd (cc (opens))
  is-use (create_table k t n o c cs m e) spelled opens = absurd (cc (opens))
  is-use (create_index (index_on k i n o t u p x xs m c z e)) spelled opens = absurd (cc (opens))
  is-use (query (ordered_select no_explain (select_from k o os f n a c) y v e)) spelled opens = absurd (cc (opens))
  is-use (query (ordered_select (explain k) q y v e)) spelled opens = absurd (cc (opens))
  is-use (query (ordered_select (explain_table p k a t b) q y v e)) spelled opens = absurd (cc (opens))
  is-use (copy k n null) spelled opens = absurd (cc (opens))
  is-use (sizes k n rows pages e) spelled opens = absurd (cc (opens))
  is-use (column_statistics k n c d z m h e) spelled opens = absurd (cc (opens))
  is-use (analyze p k n e) spelled opens = absurd (cc (opens))
  is-use (advise (advise_of p k n o c cs m x xs e)) spelled opens = absurd (cc (opens))
  is-use (grouped p unexplained k q) spelled opens = absurd (cc (opens))
  is-use (grouped p (explained t) k q) spelled opens = absurd (cc (opens))

  pub a-claim : (given : Given) → IsWhole text tokens → begins_for given (terminals text tokens) ≡ true → IsClaim given w text tokens
  a-claim Certificate whole opens = let spelled = spelled-whole text tokens whole in is-check whole.statement.0 spelled (ap begins_check spelled.words ∙ opens)
  a-claim Plan whole opens = let spelled = spelled-whole text tokens whole in is-use whole.statement.0 spelled (ap begins_use spelled.words ∙ opens)

-- a fault of the grammar
pub grammar-refused : (w : World) (text : List ℕ) (tokens : List Token) (f : Fault) → IsFirstFault IsStatement text tokens f → Refuses (ends.Fault f) w text tokens 0 0
grammar-refused w text tokens f first = (in_syntax first, plain-field w.contents f (first-plain IsStatement text tokens f first), refl)

module _ (given : Given) (w : World) (text : List ℕ) (tokens : List Token) (is : IsClaim given w text tokens) where
  abbrev pub Meant : Result Query Refusal → Type 0
  Meant r = IsBoundAs (bound_part w.contents (token_at tokens 0) is.select) r

  -- what is read there is what it means
  pub meant-there : (r : Result Query Refusal) (first : ℕ) → first ≡ words_for given → IsWhole text tokens →
      ((x : WindowedSelect) (start : Token) (later : List Token) → tokens ≡ start ∷ later → IsWhole text tokens → IsSelectAt text tokens first x → IsBoundAs (bound_part w.contents start x) r) → Meant r
  meant-there r first place whole binds =
      let few = is.within in
      let (later, split) = first-token tokens (omega (arith, few)) in
      binds is.select (token_at tokens 0) later split whole (subst (λ (n : ℕ). IsSelectAt text tokens n is.select) (sym place) is.at)

  module _ (from : ℕ) (at : from ≡ end_of tokens) where
    behind-stop : (start : Result ℕ Fault) → IsDataStart text from start → IsDataStart text is.stop.end start
    behind-stop start begins = subst (λ (n : ℕ). IsDataStart text n start) (at ∙ sym is.ends) begins

    -- a fault of the rest of its line
    pub line-refused : (f : Fault) → IsDataStart text from (Err f) → Refuses (ends.Fault f) w text tokens 0 0
    line-refused f begins = (in_meaning is.statement is.spelled (is.faults f (in_line (behind-stop (Err f) begins))), plain-field w.contents f (ap (λ (g : Fault). g.rec) begins.1), refl)

    module _ (start : ℕ) (begins : IsDataStart text from (Ok start)) where
      select-plain : (f : Fault) → bound_part w.contents (token_at tokens 0) is.select ≡ Err f → f.rec ≡ 0
      select-plain f same = subst IsPlain same (part-plain w.contents (token_at tokens 0) is.select)

      -- a fault of its SELECT, or out of memory
      pub select-refused : (r : Refusal) → Meant (Err r) → Refuses (end_of_refusal r) w text tokens 0 0
      select-refused (refusal.Fault f) meant =
          let same = meant-fault (bound_part w.contents (token_at tokens 0) is.select) f meant in
          (in_meaning is.statement is.spelled (is.faults f (in_select start (behind-stop (Ok start) begins) same)), plain-field w.contents f (select-plain f same), refl)
      select-refused refusal.Memory meant = inl refl

      module _ (q : Query) (meant : Meant (Ok q)) where
        -- the fault that no line ends the lines behind the statement
        pub endless-refused : (f : Fault) → f ≡ endless_fault start → HaveNoMark (lines_of (drop start text)) → Refuses (ends.Fault f) w text tokens 0 0
        endless-refused f same none =
            let (b, means, of) = meant-ok (bound_part w.contents (token_at tokens 0) is.select) q meant in
            (in_meaning is.statement is.spelled (is.faults f (without_end start b (behind-stop (Ok start) begins) means none same)), plain-field w.contents f (ap (λ (g : Fault). g.rec) same), refl)

        -- what is read is the query and the lines behind the statement
        pub claim-read : (end next : ℕ) → IsBlockEnd text start end next → IsClassTable (given_of w.contents q) q.classes → IsReadOver w text tokens (action_for given q (slice_range text start end)) next
        claim-read end next block own =
            let (b, means, of) = meant-ok (bound_part w.contents (token_at tokens 0) is.select) q meant in
            record {
              statement = is.statement;
              spelled = is.spelled;
              does = subst (λ (x : Query). Does w text tokens is.statement (action_for given x (slice_range text start end)) next) (sym of)
                  (is.does start end next b q.classes (behind-stop (Ok start) begins) means block (subst (λ (x : Query). IsClassTable (given_of w.contents x) q.classes) of own));
            }

        -- the query of a plan has no window
        pub claim-whole : IsWholeFor given q
        claim-whole =
            let (b, means, of) = meant-ok (bound_part w.contents (token_at tokens 0) is.select) q meant in
            subst (λ (x : Query). IsWholeFor given x) (sym of) (is.whole b q.classes means)
