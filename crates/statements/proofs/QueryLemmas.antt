-- What the reading of a SELECT says of a statement that is no definition and is not empty.
use Rattle.std.proofs.Common.{◌≡◌, ◌⊎◌, ℕ, ◌<◌, ◌≤◌, Bool, true, false, cond, nat_eq, List, [], ◌∷◌, length, inl, inr, Ok, Err, Result, IfOk, refl, sym, ap, subst, ◌∙◌, arith}
use Rattle.std.proofs.lemmas.Bool.Decides.{nat_tests}
use Rattle.std.proofs.lemmas.List.{length-map}
use Rattle.pg_base.specs.declared.limits.TheConstants.{MOST_SCRIPT_BYTES}
use Rattle.pg_base.specs.declared.faults.Fault.{Fault}
use Rattle.pg_base.specs.declared.faults.Refusal.{Refusal}
use Rattle.pg_base.specs.declared.faults.Refusal.TheVariants as refusal
use Rattle.sql_lex.specs.declared.tokens.Token.{Token}
use Rattle.sql_lex.specs.Words.{AreWords}
use Rattle.sql_lex.specs.Ends.{end_of, token_at}
use Rattle.sql_grammar.specs.Terminals.{Terminal}
use Rattle.sql_grammar.specs.work.Terminals.{class_of}
use Rattle.sql_grammar.specs.work.Table.{is_ending}
use Rattle.sql_grammar.specs.Reading.{terminal_of}
use Rattle.sql_grammar.specs.work.Reading.{is_end, ends_once}
use Rattle.sql_grammar.specs.declared.offered.TheConstants.{READS_GROUPS}
use Rattle.sql_grammar.specs.Syntax.{GroupedSelect, IsOffered, MaybeExplain, unexplained, explained, OrderedSelect, ordered_select, no_explain, explain, explain_table, select_from, index_on, semicolon, text_end, Statement, empty, create_table, create_index, query, copy, sizes, column_statistics, analyze, advise, advise_of, check, use_plan, grouped as grouped_tree}
use Rattle.sql_grammar.specs.Words.{words_of}
use Rattle.sql_grammar.specs.Faults.{IsFirstFault, IsStatement, terminals}
use Rattle.sql_grammar.specs.work.Faults.{IsWhole}
use Rattle.sql_grammar.specs.Spelled.{IsSpelled}
use Rattle.sql_grammar.proofs.StatementWords.{words-are-tokens}
use Rattle.index_reader.specs.work.AdviseStatements.{begins_advise}
use Rattle.ddl_reader.specs.work.Statements.{begins_ddl, begins_index}
use Rattle.catalog.specs.Contents.{Contents}
use Rattle.eq_classes.specs.Holding.{IsClassTable}
use Rattle.query_reader.specs.Select.{words_before}
use Rattle.query_reader.specs.work.Select.{AreGrouped, AreNoOther, AreSelect, IsBoundAs, is_explained, is_query}
use Rattle.query_reader.specs.Wanted.{wanted_by}
use Rattle.query_reader.specs.work.Wanted.{words_by}
use Rattle.query_reader.specs.Binding.{Bound, bound, query_with}
use Rattle.group_query.specs.Grouping.{given_groups}
use Rattle.group_reader.specs.Binding.{BoundGroups, bound_groups, grouped_with}
use Rattle.group_reader.specs.work.Selected.{IsAnyGrammatical, IsReadGrouped, IsReadPlain, IsWellSelected}
use Rattle.group_reader.specs.declared.selected.Selected.{Selected}
use Rattle.group_reader.specs.declared.selected.Selected.TheVariants.{Plain, Grouped}
use Rattle.group_reply.specs.group_explain_Plans.{HasNoGroupPlan}
use Rattle.sql_query.specs.Grouped.{GroupedQuery}
use Rattle.sql_query.specs.Queries.{Query}
use Rattle.sql_query.specs.WellBound.{given_of}
use Rattle.sql_query.specs.Worlds.{World}
use Rattle.store.specs.Actions.{answer_groups, explain_groups}
use Rattle.statements.specs.Accepted.{IsReadOver, action_asked, asked_of_groups}
use Rattle.statements.specs.Faults.{IsFaultOver, in_syntax, in_meaning, no_plan}
use Rattle.statements.specs.work.Questions.{HasNoneOf, IsBoundTo, asked_of, groups_asked}
use Rattle.statements.specs.work.Steps.{begins_check, begins_use}
use Rattle.statements.proofs.ArmsLemmas.{has-arms}
use Rattle.statements.proofs.BindingLemmas.{bound-plain}
use Rattle.statements.proofs.GroupPlainLemmas.{groups-bound-plain}
use Rattle.statements.proofs.PlainLemmas.{first-plain}
use Rattle.plan_tree.specs.Least.{HasNoPlan}

-- the first word is `;` or the text's end
abbrev begins_end : List Terminal → Bool
begins_end [] = false
begins_end (word ∷ _) = is_ending (class_of word)

-- a statement that begins with neither and is no definition, no ADVISE, no CHECK and no USE PLAN is a SELECT
no-other : (x : Statement) (ts : List Terminal) → begins_ddl ts ≡ false → begins_index ts ≡ false → begins_end ts ≡ false → begins_advise ts ≡ false → begins_check ts ≡ false → begins_use ts ≡ false → words_of x ≡ ts → is_query x ≡ true
no-other (empty (semicolon t)) ts other index goes advice judged used is = let e = ap begins_end is ∙ goes in absurd (cc (e))
no-other (empty (text_end t)) ts other index goes advice judged used is = let e = ap begins_end is ∙ goes in absurd (cc (e))
no-other (create_table k t n o c cs m end) ts other index goes advice judged used is = let e = ap begins_ddl is ∙ other in absurd (cc (e))
no-other (create_index (index_on k i n o t u p x xs m c w e)) ts other index goes advice judged used is = let h = ap begins_index is ∙ index in absurd (cc (h))
no-other (query q) ts other index goes advice judged used is = refl
no-other (sizes k n r p end) ts other index goes advice judged used is = let e = ap begins_ddl is ∙ other in absurd (cc (e))
no-other (column_statistics k n c d nulls commons bounds end) ts other index goes advice judged used is = let e = ap begins_ddl is ∙ other in absurd (cc (e))
no-other (analyze p k n end) ts other index goes advice judged used is = let e = ap begins_ddl is ∙ other in absurd (cc (e))
no-other (advise (advise_of p t n o x xs m q qs e)) ts other index goes advice judged used is = let e = ap begins_advise is ∙ advice in absurd (cc (e))
no-other (check p k x s) ts other index goes advice judged used is = let e = ap begins_check is ∙ judged in absurd (cc (e))
no-other (use_plan p k l q y s) ts other index goes advice judged used is = let e = ap begins_use is ∙ used in absurd (cc (e))
no-other (grouped_tree p k l q) ts other index goes advice judged used is = refl
no-other (copy k n null) ts other index goes advice judged used is = let e = ap begins_ddl is ∙ other in absurd (cc (e))

-- where more words than one stand, the first is no end
goes-by : (b : Bool) (n : ℕ) (rest : Bool) → 0 < n → cond b (nat_eq n 0) rest ≡ true → b ≡ false
goes-by true n rest some once = grind (arith, nat_tests)
goes-by false n rest some once = refl

goes-on : (text : List ℕ) (from : ℕ) (tokens : List Token) → AreWords text from tokens → length text ≤ MOST_SCRIPT_BYTES → 1 < length tokens → begins_end (terminals text tokens) ≡ false
goes-on text from [] words short some = refl
goes-on text from (t ∷ ts) words short some =
    goes-by (is_end text t) (length ts) (ends_once text ts) (omega (arith, some)) (words-are-tokens text from (t ∷ ts) words (omega (arith, short))).last

pub are-no-other : (text : List ℕ) (from : ℕ) (tokens : List Token) → AreWords text from tokens → length text ≤ MOST_SCRIPT_BYTES → 1 < length tokens → begins_ddl (terminals text tokens) ≡ false → begins_index (terminals text tokens) ≡ false → begins_advise (terminals text tokens) ≡ false →
    begins_check (terminals text tokens) ≡ false → begins_use (terminals text tokens) ≡ false → AreNoOther text tokens
are-no-other text from tokens words short some other index advice judged used = λ x is. no-other x (terminals text tokens) other index (goes-on text from tokens words short some) advice judged used is

-- what is read is the query that is meant with its own classes, and a fault is the one that is meant
pub meant-ok : (r : Result Bound Fault) (read : Query) → IsBoundAs r (Ok read) → (b : Bound) × (r ≡ Ok b) × (read ≡ query_with read.classes b)
meant-ok (Ok b) read is = (b, refl, is)
meant-ok (Err f) read is = absurd is

pub meant-fault : (r : Result Bound Fault) (f : Fault) → IsBoundAs r (Err (refusal.Fault f)) → r ≡ Err f
meant-fault (Ok b) f is = absurd is
meant-fault (Err told) f is = ap Err (sym is)

-- what is read of a SELECT of either form is the query that is meant, and a fault is the one that is meant
plain-ok : (r : Result Bound Fault) (q : Query) → IsReadPlain r (Ok (Plain q)) → (b : Bound) × (r ≡ Ok b) × (q ≡ query_with q.classes b)
plain-ok (Ok b) q is = (b, refl, is)
plain-ok (Err f) q is = absurd is

plain-fault : (r : Result Bound Fault) (f : Fault) → IsReadPlain r (Err (refusal.Fault f)) → r ≡ Err f
plain-fault (Ok b) f is = absurd is
plain-fault (Err told) f is = ap Err (sym is)

groups-ok : (r : Result BoundGroups Fault) (g : GroupedQuery) → IsReadGrouped r (Ok (Grouped g)) → (b : BoundGroups) × (r ≡ Ok b) × (g ≡ grouped_with g.base.classes b)
groups-ok (Ok b) g is = (b, refl, is)
groups-ok (Err f) g is = absurd is

groups-fault : (r : Result BoundGroups Fault) (f : Fault) → IsReadGrouped r (Err (refusal.Fault f)) → r ≡ Err f
groups-fault (Ok b) f is = absurd is
groups-fault (Err told) f is = ap Err (sym is)

-- what a reading of a SELECT of either form says: of the grammar, and of its meaning where it is of the one form or the other
pub record Reads (w : World) (text : List ℕ) (tokens : List Token) (r : Result Selected Refusal) : Type 0 where
  pub grammar : IsAnyGrammatical text tokens r
  pub plain : (x : OrderedSelect) (start : Token) (later : List Token) → tokens ≡ start ∷ later → IsSpelled (query x) text tokens → IsReadPlain (bound w.contents start x) r
  pub grouped : (offered : IsOffered READS_GROUPS) (e : MaybeExplain) (k : Token) (x : GroupedSelect) (start : Token) (later : List Token) → tokens ≡ start ∷ later →
      IsSpelled (grouped_tree offered e k x) text tokens → IsReadGrouped (bound_groups w.contents start x) r
  pub well : IfOk r (IsWellSelected w.contents)

-- behind EXPLAIN one word stands before SELECT, behind EXPLAIN (TABLE) four, and else none; further words follow
abbrev StandsBehind : List Terminal → Type 0
StandsBehind ts = (words_before ts ≡ words_by (wanted_by ts)) × (words_before ts < length ts)

words-before : (x : OrderedSelect) (ts : List Terminal) → words_of (query x) ≡ ts → StandsBehind ts
words-before (ordered_select no_explain (select_from k o os m g gs w) y v end) ts is = subst StandsBehind is (refl, omega arith)
words-before (ordered_select (explain t) (select_from k o os m g gs w) y v end) ts is = subst StandsBehind is (refl, omega arith)
words-before (ordered_select (explain_table p t o u n) (select_from k z os m g gs w) y v end) ts is = subst StandsBehind is (refl, omega arith)

groups-before : (p : IsOffered READS_GROUPS) (e : MaybeExplain) (k : Token) (x : GroupedSelect) (ts : List Terminal) → words_of (grouped_tree p e k x) ≡ ts → StandsBehind ts
groups-before p unexplained k x ts is = subst StandsBehind is (refl, omega arith)
groups-before p (explained t) k x ts is = subst StandsBehind is (refl, omega arith)

stands-behind : (text : List ℕ) (tokens : List Token) → AreSelect text tokens ⊎ AreGrouped text tokens → StandsBehind (terminals text tokens)
stands-behind text tokens (inl (x, spelled)) = words-before x (terminals text tokens) spelled.words
stands-behind text tokens (inr s) = groups-before s.offered s.explaining s.word s.select (terminals text tokens) s.spelled.words

-- a number that is that many words where they are fewer than all is the SELECT's
pub place-of-select : (text : List ℕ) (tokens : List Token) (first : ℕ) → first ≡ words_by (wanted_by (terminals text tokens)) → AreSelect text tokens ⊎ AreGrouped text tokens →
    (first ≡ words_before (terminals text tokens)) × (first < length tokens)
place-of-select text tokens first is select =
    let stands = stands-behind text tokens select in
    let place : first ≡ words_before (terminals text tokens) = is ∙ sym stands.0 in
    let few : words_before (terminals text tokens) < length (terminals text tokens) = stands.1 in
    let many : length (terminals text tokens) ≡ length tokens = length-map tokens (terminal_of text) in
    (place, omega (arith, place, few, many))

-- EXPLAIN of a SELECT that groups is known by its first word
explains-by : (p : IsOffered READS_GROUPS) (e : MaybeExplain) (k : Token) (x : GroupedSelect) (g : GroupedQuery) (ts : List Terminal) → words_of (grouped_tree p e k x) ≡ ts →
    groups_asked (is_explained ts) g ≡ asked_of_groups e g
explains-by p unexplained k x g ts is = let P : List Terminal → Type 0 = λ us. groups_asked (is_explained us) g ≡ answer_groups g in subst P is refl
explains-by p (explained t) k x g ts is = let P : List Terminal → Type 0 = λ us. groups_asked (is_explained us) g ≡ explain_groups g in subst P is refl

-- a statement of no other kind is a SELECT of the one form or the other
of-a-form : (text : List ℕ) (tokens : List Token) (x : Statement) → is_query x ≡ true → IsSpelled x text tokens → AreSelect text tokens ⊎ AreGrouped text tokens
of-a-form text tokens (query x) is spelled = inl (x, spelled)
of-a-form text tokens (grouped_tree p e k x) is spelled = inr (record { offered = p; explaining = e; word = k; select = x; spelled = spelled })
of-a-form text tokens (empty e) is spelled = cc (is)
of-a-form text tokens (create_table k t n o c cs m e) is spelled = cc (is)
of-a-form text tokens (create_index x) is spelled = cc (is)
of-a-form text tokens (sizes k n r p e) is spelled = cc (is)
of-a-form text tokens (column_statistics k n c d nulls commons bounds e) is spelled = cc (is)
of-a-form text tokens (analyze p k n e) is spelled = cc (is)
of-a-form text tokens (advise x) is spelled = cc (is)
of-a-form text tokens (check p k x e) is spelled = cc (is)
of-a-form text tokens (use_plan p k l q y e) is spelled = cc (is)
of-a-form text tokens (copy k n null) is spelled = cc (is)

whole-select : (text : List ℕ) (tokens : List Token) → AreNoOther text tokens → IsWhole text tokens → AreSelect text tokens ⊎ AreGrouped text tokens
whole-select text tokens kind whole =
    let (x, levels, words) = whole.statement in
    of-a-form text tokens x (kind x words) (record { words = words; limits = whole.within; levels = levels })

-- the words of a statement begin with its first token
pub first-token : (tokens : List Token) → 0 < length tokens → (later : List Token) × (tokens ≡ token_at tokens 0 ∷ later)
first-token [] some = absurd (omega (arith, some))
first-token (t ∷ ts) some = (ts, refl)

module _ (w : World) (text : List ℕ) (tokens : List Token) (some : 0 < length tokens) (r : Result Selected Refusal) (reads : Reads w text tokens r) where
  plain-first : (x : OrderedSelect) → IsSpelled (query x) text tokens → IsReadPlain (bound w.contents (token_at tokens 0) x) r
  plain-first x spelled = let (later, is) = first-token tokens some in reads.plain x (token_at tokens 0) later is spelled

  groups-first : (s : AreGrouped text tokens) → IsReadGrouped (bound_groups w.contents (token_at tokens 0) s.select) r
  groups-first s = let (later, is) = first-token tokens some in reads.grouped s.offered s.explaining s.word s.select (token_at tokens 0) later is s.spelled

module _ (w : World) (text : List ℕ) (tokens : List Token) (some : 0 < length tokens) where
  module _ (q : Query) (reads : Reads w text tokens (Ok (Plain q))) where
    plain-meant : (b : Bound) × (bound w.contents (token_at tokens 0) reads.grammar.0 ≡ Ok b) × (q ≡ query_with q.classes b)
    plain-meant = plain-ok (bound w.contents (token_at tokens 0) reads.grammar.0) q (plain-first w text tokens some (Ok (Plain q)) reads reads.grammar.0 reads.grammar.1)

    plain-table : (b : Bound) → q ≡ query_with q.classes b → IsClassTable (given_of w.contents (query_with q.classes b)) q.classes
    plain-table b is = subst (λ (x : Query). IsClassTable (given_of w.contents x) q.classes) is reads.well.1

    plain-read : IsReadOver w text tokens (asked_of text tokens (Plain q)) (end_of tokens)
    plain-read =
        let (b, means, is) = plain-meant in
        record { statement = query reads.grammar.0; spelled = reads.grammar.1; does = (b, means, (q.classes, plain-table b is, ap (action_asked text tokens) is), refl) }

    -- that a query has no plan is its fault
    plain-unplanned : HasNoPlan w.contents q → IsFaultOver w text tokens (no_plan text tokens)
    plain-unplanned none =
        let (b, means, is) = plain-meant in
        in_meaning (query reads.grammar.0) reads.grammar.1 (inr (b, means, (q.classes, plain-table b is, subst (HasNoPlan w.contents) is none, refl)))

  module _ (g : GroupedQuery) (reads : Reads w text tokens (Ok (Grouped g))) where
    abbrev tree : Statement
    tree = grouped_tree reads.grammar.offered reads.grammar.explaining reads.grammar.word reads.grammar.select

    groups-meant : (b : BoundGroups) × (bound_groups w.contents (token_at tokens 0) reads.grammar.select ≡ Ok b) × (g ≡ grouped_with g.base.classes b)
    groups-meant = groups-ok (bound_groups w.contents (token_at tokens 0) reads.grammar.select) g (groups-first w text tokens some (Ok (Grouped g)) reads reads.grammar)

    groups-table : (b : BoundGroups) → g ≡ grouped_with g.base.classes b → IsClassTable (given_groups w.contents (grouped_with g.base.classes b)) g.base.classes
    groups-table b is = subst (λ (x : GroupedQuery). IsClassTable (given_groups w.contents x) g.base.classes) is reads.well.1

    groups-read : IsReadOver w text tokens (asked_of text tokens (Grouped g)) (end_of tokens)
    groups-read =
        let (b, means, is) = groups-meant in
        let e = reads.grammar.explaining in
        let asks : asked_of text tokens (Grouped g) ≡ asked_of_groups e (grouped_with g.base.classes b) =
        explains-by reads.grammar.offered e reads.grammar.word reads.grammar.select g (terminals text tokens) reads.grammar.spelled.words ∙ ap (asked_of_groups e) is in
        record { statement = tree; spelled = reads.grammar.spelled; does = (b, means, record { classes = g.base.classes; own = groups-table b is; asks = asks }, refl) }

    -- that a grouped query has no plan that groups is its fault
    groups-unplanned : HasNoGroupPlan w.contents g → IsFaultOver w text tokens (no_plan text tokens)
    groups-unplanned none =
        let (b, means, is) = groups-meant in
        in_meaning tree reads.grammar.spelled (inr (b, means, record { classes = g.base.classes; own = groups-table b is; none = subst (HasNoGroupPlan w.contents) is none; is = refl }))

  pub read-selected : (s : Selected) → Reads w text tokens (Ok s) → IsReadOver w text tokens (asked_of text tokens s) (end_of tokens)
  read-selected (Plain q) reads = plain-read q reads
  read-selected (Grouped g) reads = groups-read g reads

  pub unplanned-selected : (s : Selected) → Reads w text tokens (Ok s) → HasNoneOf w.contents s → IsFaultOver w text tokens (no_plan text tokens)
  unplanned-selected (Plain q) reads none = plain-unplanned q reads none
  unplanned-selected (Grouped g) reads none = groups-unplanned g reads none

  module _ (f : Fault) (reads : Reads w text tokens (Err (refusal.Fault f))) where
    plain-told : (x : OrderedSelect) → IsSpelled (query x) text tokens → bound w.contents (token_at tokens 0) x ≡ Err f
    plain-told x spelled = plain-fault (bound w.contents (token_at tokens 0) x) f (plain-first w text tokens some (Err (refusal.Fault f)) reads x spelled)

    groups-told : (s : AreGrouped text tokens) → bound_groups w.contents (token_at tokens 0) s.select ≡ Err f
    groups-told s = groups-fault (bound_groups w.contents (token_at tokens 0) s.select) f (groups-first w text tokens some (Err (refusal.Fault f)) reads s)

    form-fault : AreSelect text tokens ⊎ AreGrouped text tokens → IsFaultOver w text tokens f
    form-fault (inl (x, spelled)) = in_meaning (query x) spelled (inl (plain-told x spelled))
    form-fault (inr s) = in_meaning (grouped_tree s.offered s.explaining s.word s.select) s.spelled (inl (groups-told s))

    form-plain : AreSelect text tokens ⊎ AreGrouped text tokens → f.rec ≡ 0
    form-plain (inl (x, spelled)) = bound-plain w.contents (token_at tokens 0) x f (plain-told x spelled)
    form-plain (inr s) = groups-bound-plain w.contents (token_at tokens 0) s.select f (groups-told s)

    fault-by : AreNoOther text tokens → IsFirstFault IsStatement text tokens f ⊎ IsWhole text tokens → IsFaultOver w text tokens f
    fault-by kind (inl first) = in_syntax first
    fault-by kind (inr whole) = form-fault (whole-select text tokens kind whole)

    rec-by : AreNoOther text tokens → IsFirstFault IsStatement text tokens f ⊎ IsWhole text tokens → f.rec ≡ 0
    rec-by kind (inl first) = first-plain IsStatement text tokens f first
    rec-by kind (inr whole) = form-plain (whole-select text tokens kind whole)

    pub query-fault : AreNoOther text tokens → IsFaultOver w text tokens f
    query-fault kind = fault-by kind reads.grammar

    pub fault-plain : AreNoOther text tokens → f.rec ≡ 0
    fault-plain kind = rec-by kind reads.grammar

-- what is read is a SELECT of the one form or the other
pub selected-form : (w : World) (text : List ℕ) (tokens : List Token) (s : Selected) → Reads w text tokens (Ok s) → AreSelect text tokens ⊎ AreGrouped text tokens
selected-form w text tokens (Plain q) reads = inl reads.grammar
selected-form w text tokens (Grouped g) reads = inr reads.grammar

-- bound to the catalogue
pub selected-bound : (c : Contents) (s : Selected) → IsWellSelected c s → IsBoundTo c s
selected-bound c (Plain q) well = (well.0, has-arms c q well.1 well.2)
selected-bound c (Grouped g) well = well.0
