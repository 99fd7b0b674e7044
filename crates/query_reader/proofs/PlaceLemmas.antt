-- Where a SELECT stands among the tokens of a statement.
use Rattle.std.proofs.Common.{◌≡◌, ◌<◌, ◌≤◌, ◌+◌, ◌-◌, ◌⊎◌, inl, inr, ℕ, Bool, true, false, List, [], ◌∷◌, ◌++◌, length, map, drop, take, get_or, Some, None, All, refl, sym, ap, subst, ◌∙◌, arith, append_assoc, length-append}
use Rattle.std.proofs.lemmas.List.{drop-map, drop-take, drop_more, length-drop, length-map, length-take, take-map, take_at}
use Rattle.std.proofs.lemmas.List.Elements.{All-drop}
use Rattle.std.proofs.Math.Nat.{min-le_left}
use Rattle.pg_base.specs.declared.faults.Code.TheVariants.{S1}
use Rattle.pg_base.specs.declared.faults.Fault.{Fault}
use Rattle.pg_base.specs.declared.limits.TheConstants.{MOST_LEVELS}
use Rattle.sql_lex.specs.declared.tokens.Token.{Token}
use Rattle.sql_grammar.specs.declared.class.Word.TheVariants.{Select as SelectKey}
use Rattle.sql_grammar.specs.Terminals.{Terminal, t_key}
use Rattle.sql_grammar.specs.Reading.{terminal_of}
use Rattle.sql_grammar.specs.Syntax.{no_limit, no_offset, window, select_from, WindowedSelect, windowed_select, Ending, semicolon, text_end, no_explain, explain, explain_table, OrderedSelect, ordered_select, Statement, empty, create_table, create_index, query, copy, sizes, column_statistics, analyze, advise, check, use_plan, grouped}
use Rattle.sql_grammar.specs.Words.{levels_of, words_of, words_of_ending, words_of_order, words_of_ordered, words_of_select, words_of_window, words_of_windowed}
use Rattle.sql_grammar.specs.Faults.{AreWithinLimits, IsFirstFault, IsStatement, fault_at, limit_of, terminals}
use Rattle.sql_grammar.specs.work.Faults.{EndsAt, IsWhole, IsWindowed}
use Rattle.sql_grammar.specs.Spelled.{IsSpelled}
use Rattle.sql_grammar.specs.work.Unique.{ends_windowed}
use Rattle.expr_reader.specs.work.Reading.{Begins, BeginsNot}
use Rattle.query_reader.specs.work.Parts.{IsPartAt, HavePart, as_statement, IsSelectAt, HaveSelectAt, select_of}
use Rattle.query_reader.specs.Select.{words_before}
use Rattle.query_reader.specs.work.Select.{AreGrouped, AreSelect, IsAtFirst, IsFaultBy, IsNoSelectAt, begins_query, begins_select}
use Rattle.query_reader.proofs.GrammarLemmas.{excluded, forms-apart, no-other, whole-query}

-- one word ends a statement, and no SELECT goes on with it
pub one-end : (e : Ending) → (t : Terminal) × (words_of_ending e ≡ t ∷ []) × (ends_windowed (t ∷ []) ≡ true)
one-end (semicolon t) = (_, refl, refl)
one-end (text_end t) = (_, refl, refl)

-- all but the last of what is left from a number on stands up to the last one
pub front-of : (h : Token → Terminal) (tokens : List Token) (first end : ℕ) (p : List Terminal) (t : Terminal) → p ++ t ∷ [] ≡ map h (drop first tokens) → end ≡ length tokens - 1 → p ≡ map h (drop first (take end tokens))
front-of h tokens first end p t is at =
    let many : length p + 1 ≡ length tokens - first = sym (length-append p (t ∷ [])) ∙ (ap length is ∙ (length-map (drop first tokens) h ∙ length-drop first tokens)) in
    let last : first + length p ≡ end = omega (arith, many, at) in
    sym (take_at p (t ∷ []) (length p) refl) ∙ (ap (take (length p)) is ∙ (take-map h (length p) (drop first tokens) ∙
    (ap (map h) (sym (drop-take first (length p) tokens)) ∙ ap (λ (n : ℕ). map h (drop first (take n tokens))) last)))

-- what stands from a number on before a token stands up to it
pub slice-is : (tokens before after : List Token) (token : Token) (first end : ℕ) → drop first tokens ≡ before ++ token ∷ after → end ≡ first + length before → (drop first (take end tokens) ≡ before) × (end ≤ length tokens)
slice-is tokens before after token first end split place =
    let many = sym (length-drop first tokens) ∙ (ap length split ∙ length-append before (token ∷ after)) in (
      ap (λ (n : ℕ). drop first (take n tokens)) place ∙ (drop-take first (length before) tokens ∙ (ap (take (length before)) split ∙ take_at before (token ∷ after) (length before) refl)),
      omega (arith, many, place),
    )

-- a SELECT with the word that ends the statement
pub ended : (x : WindowedSelect) (e : Ending) → words_of_windowed x ++ words_of_ending e ≡ words_of (as_statement x e)
ended (windowed_select q y v) e =
    append_assoc (words_of_select q) (words_of_order y ++ words_of_window v) (words_of_ending e) ∙ ap (λ l. words_of_select q ++ l) (append_assoc (words_of_order y) (words_of_window v) (words_of_ending e))

-- a SELECT up to the end is a part up to the last token
pub part-to-end : (text : List ℕ) (tokens : List Token) (first end : ℕ) (x : WindowedSelect) → AreWithinLimits (terminals text tokens) → IsSelectAt text tokens first x → end ≡ length tokens - 1 → IsPartAt text tokens first end x
part-to-end text tokens first end x within (e, w) at =
    let (t, one, ends) = one-end e in
    record {
      within = omega (arith, at);
      words = front-of (terminal_of text) tokens first end (words_of_windowed x) t (ap (λ l. words_of_windowed x ++ l) (sym one) ∙ (ended x e ∙ w.words)) at;
      limits = within;
    }

-- a SELECT whose end is found is a part
pub part-that-ends : (text : List ℕ) (tokens : List Token) (first end : ℕ) → AreWithinLimits (terminals text tokens) → EndsAt IsWindowed text tokens first end → HavePart text tokens first end
part-that-ends text tokens first end within at =
    let (x, levels, words) = at.whole in
    let slice = slice-is tokens at.before at.after at.token first end at.split at.place in
    (x, record { within = slice.1; words = words ∙ ap (terminals text) (sym slice.0); limits = within })

-- a part has a word at least
some-words : (x : WindowedSelect) → 0 < length (words_of_windowed x)
some-words (windowed_select (select_from k o os f g gs w) y v) = omega arith

pub part-goes-on : (text : List ℕ) (tokens : List Token) (first end : ℕ) → HavePart text tokens first end → (first < end) × (end ≤ length tokens)
part-goes-on text tokens first end (x, at) =
    let some = some-words x in
    let many = ap length at.words ∙ (length-map (drop first (take end tokens)) (terminal_of text) ∙ (length-drop first (take end tokens) ∙ ap (λ (n : ℕ). n - first) (length-take end tokens))) in
    (omega (arith, some, many, min-le_left end (length tokens)), at.within)

-- a statement that begins with SELECT is one without EXPLAIN
plain : (q : OrderedSelect) (k : Token) (left : List Terminal) → words_of_ordered q ≡ t_key SelectKey k ∷ left → (x : WindowedSelect) × (e : Ending) × (query q ≡ as_statement x e)
plain (ordered_select no_explain q y v e) k left is = (windowed_select q y v, e, refl)
plain (ordered_select (explain t) q y v e) k left is = absurd (cc (is))
plain (ordered_select (explain_table p t o u m) q y v e) k left is = absurd (cc (is))

select-is : (text : List ℕ) (tokens : List Token) (k : Token) (left : List Terminal) → terminals text tokens ≡ t_key SelectKey k ∷ left → AreSelect text tokens → HaveSelectAt text tokens 0
select-is text tokens k left begins (q, w) =
    let (x, e, so) = plain q k left (w.words ∙ begins) in
    (x, (e, subst (λ (s : Statement). IsSpelled s text tokens) so w))

either-is : (text : List ℕ) (tokens : List Token) (k : Token) (left : List Terminal) → terminals text tokens ≡ t_key SelectKey k ∷ left → AreSelect text tokens ⊎ AreGrouped text tokens →
    HaveSelectAt text tokens 0 ⊎ AreGrouped text tokens
either-is text tokens k left begins (inl select) = inl (select-is text tokens k left begins select)
either-is text tokens k left begins (inr groups) = inr groups

first-word : (ts : List Terminal) → begins_select ts ≡ true → (k : Token) × (left : List Terminal) × (ts ≡ t_key SelectKey k ∷ left)
first-word (t_key SelectKey k ∷ left) is = (k, left, refl)
first-word _ is = absurd (cc (is))

-- a statement that begins with SELECT is a SELECT, or one that groups
pub select-there : (text : List ℕ) (tokens : List Token) → IsWhole text tokens → begins_select (terminals text tokens) ≡ true → HaveSelectAt text tokens 0 ⊎ AreGrouped text tokens
select-there text tokens whole is =
    let (k, left, begins) = first-word (terminals text tokens) is in
    either-is text tokens k left begins (whole-query text tokens whole (λ x words. no-other x (terminals text tokens) words (ap begins_query begins)))

-- a SELECT is none that groups
pub one-select : (text : List ℕ) (tokens : List Token) (x : WindowedSelect) (e : Ending) → IsSpelled (as_statement x e) text tokens → AreSelect text tokens
one-select text tokens (windowed_select q y v) e w = (ordered_select no_explain q y v e, w)

no-groups : (text : List ℕ) (tokens : List Token) (first : ℕ) → AreGrouped text (drop first tokens) → ¬ HaveSelectAt text tokens first
no-groups text tokens first groups (x, (e, w)) = forms-apart text (drop first tokens) (one-select text (drop first tokens) x e w) groups

-- another word stands there
other-word : (text : List ℕ) (tokens : List Token) (x : WindowedSelect) (e : Ending) → words_of (as_statement x e) ≡ terminals text tokens → BeginsNot (t_key SelectKey) (terminals text tokens) → ⊥
other-word text tokens (windowed_select (select_from k o os f g gs w) y v) e is other = other _ (k, sym is)

not-begun : (ts : List Terminal) → BeginsNot (t_key SelectKey) ts → begins_select ts ≡ false
not-begun [] other = refl
not-begun (t_key SelectKey k ∷ rest) other = absurd (other rest (k, refl))
not-begun (_ ∷ rest) other = refl

by-false : (text : List ℕ) (tokens : List Token) (f : Fault) (b : Bool) → b ≡ false → IsFaultBy text tokens f false → IsFaultBy text tokens f b
by-false text tokens f b is h = subst (λ c. IsFaultBy text tokens f c) (sym is) h

-- the first of the tokens from a number on
at-first : (tokens : List Token) (first : ℕ) (given : List Token) (d : Token) (f : Fault) → first < length tokens → given ≡ tokens → f ≡ fault_at S1 (get_or given first d) → IsAtFirst (drop first tokens) f
at-first tokens first given d f within same is =
    (get_or tokens first d, drop (first + 1) tokens, drop_more tokens first d within, is ∙ ap (λ (ts : List Token). fault_at S1 (get_or ts first d)) same)

pub no-select : (text : List ℕ) (tokens : List Token) (first : ℕ) (given : List Token) (d : Token) (f : Fault) → first < length tokens → BeginsNot (t_key SelectKey) (terminals text (drop first tokens)) → given ≡ tokens → f ≡ fault_at S1 (get_or given first d) →
    IsNoSelectAt text tokens first f
no-select text tokens first given d f within other same is = record {
  none = λ has. let (x, (e, w)) = has in other-word text (drop first tokens) x e w.words other;
  cause = by-false text (drop first tokens) f (begins_select (terminals text (drop first tokens))) (not-begun (terminals text (drop first tokens)) other) (at-first tokens first given d f within same is);
}

by-true : (text : List ℕ) (tokens : List Token) (f : Fault) (b : Bool) → b ≡ true → IsFaultBy text tokens f true → IsFaultBy text tokens f b
by-true text tokens f b is h = subst (λ c. IsFaultBy text tokens f c) (sym is) h

-- SELECT stands there
pub begins-so : (ts left : List Terminal) → Begins (t_key SelectKey) ts left → begins_select ts ≡ true
begins-so ts left (k, begins) = ap begins_select begins

-- SELECT stands there, and the statement goes wrong behind it
pub by-fault : (text : List ℕ) (tokens : List Token) (first : ℕ) (f : Fault) → begins_select (terminals text (drop first tokens)) ≡ true → IsFirstFault IsStatement text (drop first tokens) f → IsNoSelectAt text tokens first f
by-fault text tokens first f begins fault = record {
  none = λ has. let (x, (e, w)) = has in excluded text (drop first tokens) f (as_statement x e) fault w;
  cause = by-true text (drop first tokens) f (begins_select (terminals text (drop first tokens))) begins (inl fault);
}

-- a SELECT that groups stands there
pub by-groups : (text : List ℕ) (tokens : List Token) (first : ℕ) (given : List Token) (d : Token) (f : Fault) → first < length tokens → begins_select (terminals text (drop first tokens)) ≡ true → AreGrouped text (drop first tokens) →
    given ≡ tokens → f ≡ fault_at S1 (get_or given first d) → IsNoSelectAt text tokens first f
by-groups text tokens first given d f within begins groups same is = record {
  none = no-groups text tokens first groups;
  cause = by-true text (drop first tokens) f (begins_select (terminals text (drop first tokens))) begins (inr (groups, at-first tokens first given d f within same is));
}

-- the SELECT of a statement, behind so many words
module _ (text : List ℕ) (tokens : List Token) (limits : AreWithinLimits (terminals text tokens)) where
  behind : (n : ℕ) (x : WindowedSelect) (e : Ending) → words_of (as_statement x e) ≡ drop n (terminals text tokens) → levels_of (as_statement x e) ≤ MOST_LEVELS → IsSelectAt text tokens n x
  behind n x e words levels = (
    e,
    record {
      words = words ∙ drop-map (terminal_of text) n tokens;
      limits = subst (All (λ t. limit_of t ≡ None)) (drop-map (terminal_of text) n tokens) (All-drop (λ t. limit_of t ≡ None) n (terminals text tokens) limits);
      levels = levels;
    },
  )

  at : (n : ℕ) (a x : WindowedSelect) → Some a ≡ Some x → IsSelectAt text tokens n a → IsSelectAt text tokens n x
  at n a x is h = let same : a ≡ x = cc (is) in subst (IsSelectAt text tokens n) same h

  its-select : (s : Statement) (x : WindowedSelect) → select_of s ≡ Some x → words_of s ≡ terminals text tokens → levels_of s ≤ MOST_LEVELS → IsSelectAt text tokens (words_before (words_of s)) x
  its-select (query (ordered_select no_explain (select_from k o os f g gs w) y v e)) x is words levels =
      let a = windowed_select (select_from k o os f g gs w) y v in
      at 0 a x is (behind 0 a e words levels)
  its-select (query (ordered_select (explain t) (select_from k o os f g gs w) y v e)) x is words levels =
      let a = windowed_select (select_from k o os f g gs w) y v in
      at 1 a x is (behind 1 a e (ap (drop 1) words) levels)
  its-select (query (ordered_select (explain_table p t o u m) q y v e)) x is words levels = at 4 (windowed_select q y v) x is (behind 4 (windowed_select q y v) e (ap (drop 4) words) levels)
  its-select (check p k (windowed_select q y v) t) x is words levels =
      at 1 (windowed_select q y v) x is (behind 1 (windowed_select q y v) (semicolon t) (sym (ended (windowed_select q y v) (semicolon t)) ∙ ap (drop 1) words) levels)
  its-select (use_plan p u l q y t) x is words levels =
      let a = windowed_select q y (window no_limit no_offset) in
      at 2 a x is (behind 2 a (semicolon t) (ap (drop 2) words) levels)
  its-select (empty e) x is words levels = absurd (cc (is))
  its-select (create_table k t n o c cs m e) x is words levels = absurd (cc (is))
  its-select (create_index y) x is words levels = absurd (cc (is))
  its-select (copy k n null) x is words levels = absurd (cc (is))
  its-select (sizes k n r p e) x is words levels = absurd (cc (is))
  its-select (column_statistics k n c d z m h e) x is words levels = absurd (cc (is))
  its-select (analyze p k n e) x is words levels = absurd (cc (is))
  its-select (advise y) x is words levels = absurd (cc (is))
  its-select (grouped p u k q) x is words levels = absurd (cc (is))

pub statement-select : (s : Statement) (x : WindowedSelect) (text : List ℕ) (tokens : List Token) → select_of s ≡ Some x → IsSpelled s text tokens → IsSelectAt text tokens (words_before (terminals text tokens)) x
statement-select s x text tokens is w = subst (λ (ts : List Terminal). IsSelectAt text tokens (words_before ts) x) w.words (its-select text tokens w.limits s x is w.words w.levels)
