-- The form of a SELECT, and where it stands among the tokens of a statement.
use Rattle.std.proofs.Common.{◌≡◌, ◌⊎◌, inl, inr, ℕ, true, List, drop, None, Ok, Err, Result, IsErrAnd, refl, sym, ap, subst, ◌∙◌}
use Rattle.std.proofs.lemmas.List.{drop-map}
use Rattle.std.proofs.lemmas.List.Elements.{All-drop}
use Rattle.pg_base.specs.declared.faults.Fault.{Fault}
use Rattle.pg_base.specs.declared.faults.Refusal.{Refusal}
use Rattle.pg_base.specs.declared.faults.Refusal.TheVariants as refusal
use Rattle.sql_lex.specs.declared.tokens.Token.{Token}
use Rattle.sql_grammar.specs.declared.offered.TheConstants.{READS_GROUPS}
use Rattle.sql_grammar.specs.Faults.{AreWithinLimits, limit_of, terminals}
use Rattle.sql_grammar.specs.work.Faults.{IsWhole}
use Rattle.sql_grammar.specs.Reading.{terminal_of}
use Rattle.sql_grammar.specs.Spelled.{IsSpelled}
use Rattle.sql_grammar.specs.Syntax.{GroupedSelect, IsOffered, MaybeExplain, explained, unexplained, select_from, WindowedSelect, windowed_select, no_explain, OrderedSelect, ordered_select, Ending, grouped, query}
use Rattle.sql_grammar.specs.Words.{words_of}
use Rattle.catalog.specs.Contents.{Contents}
use Rattle.query_reader.specs.Binding.{Bound, bound, bound_part, query_with}
use Rattle.query_reader.specs.work.Parts.{HaveSelectAt, IsSelectAt, as_statement}
use Rattle.query_reader.specs.Select.{words_before}
use Rattle.query_reader.specs.work.Select.{AreGrouped, AreSelect, IsBoundAs, begins_select}
use Rattle.query_reader.proofs.GrammarLemmas.{forms-apart}
use Rattle.query_reader.proofs.PlaceLemmas.{statement-select}
use Rattle.sql_query.specs.Queries.{Query}
use Rattle.sql_query.specs.Grouped.{GroupedQuery}
use Rattle.group_reader.specs.declared.selected.Selected.{Selected}
use Rattle.group_reader.specs.declared.selected.Selected.TheVariants.{Plain, Grouped}
use Rattle.group_reader.specs.Binding.{BoundGroups, grouped_with}
use Rattle.group_reader.specs.work.Selected.{IsAnyGrammatical, IsGroupedAs, IsGroupedAt, IsGroupedOf, IsPlainOf, IsReadGrouped, IsReadPlain}
use Rattle.group_reader.proofs.AddLemmas.{conveys-refused}
use Rattle.query_reader.proofs.PlaceLemmas.{one-select as there-select}

-- a SELECT that groups stands behind its EXPLAIN
pub grouped-at : (text : List ℕ) (tokens : List Token) (first : ℕ) (p : IsOffered READS_GROUPS) (e : MaybeExplain) (k : Token) (x : GroupedSelect) → IsSpelled (grouped p e k x) text tokens → first ≡ words_before (terminals text tokens) →
    IsGroupedAt text tokens first x
grouped-at text tokens first p unexplained k x w place =
    let here : first ≡ 0 = place ∙ ap words_before (sym w.words) in
    subst (λ (n : ℕ). IsGroupedAt text tokens n x) (sym here) (record { offered = p; word = k; spelled = w })
grouped-at text tokens first p (explained t) k x w place =
    let here : first ≡ 1 = place ∙ ap words_before (sym w.words) in
    let at : IsSpelled (grouped p unexplained k x) text (drop 1 tokens) = record {
      words = ap (drop 1) w.words ∙ drop-map (terminal_of text) 1 tokens;
      limits = subst AreWithinLimits (drop-map (terminal_of text) 1 tokens) (All-drop (λ t. limit_of t ≡ None) 1 (terminals text tokens) w.limits);
      levels = w.levels;
    } in
    subst (λ (n : ℕ). IsGroupedAt text tokens n x) (sym here) (record { offered = p; word = k; spelled = at })

-- a SELECT that does not group stands behind the words that tell what is asked of it
abbrev pub part_of : OrderedSelect → WindowedSelect
part_of (ordered_select e q y v s) = windowed_select q y v

pub select-at : (text : List ℕ) (tokens : List Token) (first : ℕ) (x : OrderedSelect) → IsSpelled (query x) text tokens → first ≡ words_before (terminals text tokens) → IsSelectAt text tokens first (part_of x)
select-at text tokens first (ordered_select e q y v s) w place =
    subst (λ (n : ℕ). IsSelectAt text tokens n (windowed_select q y v)) (sym place) (statement-select (query (ordered_select e q y v s)) (windowed_select q y v) text tokens refl w)

pub bound-at : (c : Contents) (start : Token) (x : OrderedSelect) → bound c start x ≡ bound_part c start (part_of x)
bound-at c start (ordered_select e q y v s) = refl

-- the tokens from there on are a statement that begins with SELECT
begins-so : (x : WindowedSelect) (e : Ending) → begins_select (words_of (as_statement x e)) ≡ true
begins-so (windowed_select (select_from k o os f g gs w) y v) e = refl

pub whole-there : (text : List ℕ) (tokens : List Token) (first : ℕ) → AreSelect text tokens ⊎ AreGrouped text tokens → first ≡ words_before (terminals text tokens) →
    IsWhole text (drop first tokens) × (begins_select (terminals text (drop first tokens)) ≡ true)
whole-there text tokens first (inl (x, w)) place =
    let (e, at) = select-at text tokens first x w place in (
      record { statement = (as_statement (part_of x) e, at.levels, at.words); within = at.limits },
      sym (ap begins_select at.words) ∙ begins-so (part_of x) e,
    )
whole-there text tokens first (inr g) place =
    let at = grouped-at text tokens first g.offered g.explaining g.word g.select g.spelled place in (
      record { statement = (grouped at.offered unexplained at.word g.select, at.spelled.levels, at.spelled.words); within = at.spelled.limits },
      sym (ap begins_select at.spelled.words),
    )

there-grouped : (text : List ℕ) (tokens : List Token) (x : GroupedSelect) (first : ℕ) → IsGroupedAt text tokens first x → AreGrouped text (drop first tokens)
there-grouped text tokens x first at = record { offered = at.offered; explaining = unexplained; word = at.word; select = x; spelled = at.spelled }

pub plain-form : (text : List ℕ) (tokens : List Token) (first : ℕ) → AreSelect text tokens ⊎ AreGrouped text tokens → first ≡ words_before (terminals text tokens) → HaveSelectAt text tokens first → AreSelect text tokens
plain-form text tokens first (inl s) place has = s
plain-form text tokens first (inr g) place (x, (e, w)) =
    absurd (forms-apart text (drop first tokens) (there-select text (drop first tokens) x e w)
    (there-grouped text tokens g.select first (grouped-at text tokens first g.offered g.explaining g.word g.select g.spelled place)))

pub grouped-form : (text : List ℕ) (tokens : List Token) (first : ℕ) → AreSelect text tokens ⊎ AreGrouped text tokens → first ≡ words_before (terminals text tokens) → AreGrouped text (drop first tokens) → AreGrouped text tokens
grouped-form text tokens first (inr g) place has = g
grouped-form text tokens first (inl (x, w)) place has =
    let (e, at) = select-at text tokens first x w place in
    absurd (forms-apart text (drop first tokens) (there-select text (drop first tokens) (part_of x) e at) has)

-- what is read of a whole statement
pub refused-whole : (text : List ℕ) (tokens : List Token) (e : Refusal) (r : Result Selected Refusal) → IsWhole text tokens → IsErrAnd r (λ d. d ≡ e) → IsAnyGrammatical text tokens r
refused-whole text tokens e (Ok v) whole told = absurd told
refused-whole text tokens e (Err (refusal.Fault f)) whole told = inr whole
refused-whole text tokens e (Err refusal.Memory) whole told = whole

-- a plain one
pub plain-refused : (m : Result Bound Fault) (e : Refusal) (r : Result Selected Refusal) → IsBoundAs m (Err e) → IsErrAnd r (λ d. d ≡ e) → IsReadPlain m r
plain-refused m e r read told = conveys-refused Bound Bound Query Selected (λ meant q. q ≡ query_with q.classes meant) IsPlainOf m m e r read (λ f is. is) told

pub plain-read : (m : Result Bound Fault) (q : Query) → IsBoundAs m (Ok q) → IsReadPlain m (Ok (Plain q))
plain-read (Ok b) q read = read
plain-read (Err f) q read = absurd read

-- a SELECT that groups
pub grouped-refused : (m : Result BoundGroups Fault) (e : Refusal) (r : Result Selected Refusal) → IsGroupedAs m (Err e) → IsErrAnd r (λ d. d ≡ e) → IsReadGrouped m r
grouped-refused m e r read told = conveys-refused BoundGroups BoundGroups GroupedQuery Selected (λ meant g. g ≡ grouped_with g.base.classes meant) IsGroupedOf m m e r read (λ f is. is) told

pub grouped-read : (m : Result BoundGroups Fault) (g : GroupedQuery) → IsGroupedAs m (Ok g) → IsReadGrouped m (Ok (Grouped g))
grouped-read (Ok b) g read = read
grouped-read (Err f) g read = absurd read
