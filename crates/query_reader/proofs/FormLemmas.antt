-- Which form a SELECT has: where the longest one that does not group ends tells it.
use Rattle.std.proofs.Common.{◌≡◌, ◌<◌, ◌≤◌, ◌+◌, ◌-◌, ◌⊎◌, inl, inr, ℕ, Bool, true, false, cond, nat_eq, List, [], ◌∷◌, ◌++◌, length, drop, take, None, Result, Ok, Err, not, refl, sym, ap, subst, ◌∙◌, arith, append_assoc, length-append}
use Rattle.std.proofs.lemmas.List.{length-drop, length-map, map-append, take-append-drop, take_at}
use Rattle.std.proofs.lemmas.List.Elements.{All-take}
use Rattle.std.proofs.lemmas.Bool.{eq-eqb, eqb-true, not-false}
use Rattle.pg_base.specs.declared.faults.Fault.{Fault}
use Rattle.pg_base.specs.declared.limits.TheConstants.{MOST_LEVELS}
use Rattle.sql_lex.specs.declared.tokens.Token.{Token}
use Rattle.sql_grammar.specs.Terminals.{Terminal, t_semicolon, t_end}
use Rattle.sql_grammar.specs.work.Terminals.{class_of}
use Rattle.sql_grammar.specs.Reading.{terminal_of}
use Rattle.sql_grammar.specs.work.Reading.{AreTokens, ends_once, is_end}
use Rattle.sql_grammar.specs.work.Table.{is_ending}
use Rattle.sql_grammar.specs.Syntax.{Ending, semicolon, text_end, WindowedSelect, windowed_select}
use Rattle.sql_grammar.specs.Words.{levels_of, levels_of_windowed, words_of_ending, words_of_windowed}
use Rattle.sql_grammar.specs.Faults.{AreWithinLimits, limit_of, terminals}
use Rattle.sql_grammar.specs.work.Faults.{EndsAt, IsPartEnd, IsWhole, IsWindowed}
use Rattle.sql_grammar.proofs.PartEnds.{windowed-ends}
use Rattle.query_reader.specs.work.Parts.{as_statement, HaveSelectAt}
use Rattle.query_reader.specs.work.Select.{AreGrouped, begins_select}
use Rattle.query_reader.proofs.PlaceLemmas.{ended, one-end, select-there}

-- the last of the tokens is an end
only-end : (b : Bool) → cond b true false ≡ true → b ≡ true
only-end true once = refl
only-end false once = absurd (cc (once))

more-behind : (text : List ℕ) (before : List Token) (t : Token) (b : Bool) → cond b (nat_eq (length (before ++ t ∷ [])) 0) (ends_once text (before ++ t ∷ [])) ≡ true → ends_once text (before ++ t ∷ []) ≡ true
more-behind text before t false once = once
more-behind text before t true once = let none = eqb-true _ _ once in absurd (omega (arith, none, length-append before (t ∷ [])))

last-ends : (text : List ℕ) (before : List Token) (t : Token) → ends_once text (before ++ t ∷ []) ≡ true → is_end text t ≡ true
last-ends text [] t once = only-end (is_end text t) once
last-ends text (b ∷ before) t once = last-ends text before t (more-behind text before t (is_end text b) once)

ending-of : (t : Terminal) → is_ending (class_of t) ≡ true → (e : Ending) × (words_of_ending e ≡ t ∷ [])
ending-of (t_semicolon t) is = (semicolon t, refl)
ending-of (t_end t) is = (text_end t, refl)
ending-of _ is = absurd (cc (is))

-- nothing stands behind the last token
none-behind : (tokens before after : List Token) (t : Token) (first end : ℕ) → drop first tokens ≡ before ++ t ∷ after → end ≡ first + length before → end + 1 ≡ length tokens → after ≡ []
none-behind tokens before [] t first end split place last = refl
none-behind tokens before (u ∷ us) t first end split place last =
    let many : length tokens - first ≡ length before + length (t ∷ u ∷ us) = sym (length-drop first tokens) ∙ (ap length split ∙ length-append before (t ∷ u ∷ us)) in
    absurd (omega (arith, many, place, last))

levels-same : (x : WindowedSelect) (e : Ending) → levels_of_windowed x ≡ levels_of (as_statement x e)
levels-same (windowed_select q y v) e = refl

-- a SELECT that ends at the last token
pub select-by-end : (text : List ℕ) (tokens : List Token) (first end : ℕ) → AreTokens text tokens → IsWhole text (drop first tokens) → EndsAt IsWindowed text tokens first end → end + 1 ≡ length tokens → HaveSelectAt text tokens first
select-by-end text tokens first end are whole at last =
    let none = none-behind tokens at.before at.after at.token first end at.split at.place last in
    let alone : drop first tokens ≡ at.before ++ at.token ∷ [] = at.split ∙ ap (λ (ts : List Token). at.before ++ at.token ∷ ts) none in
    let all : tokens ≡ (take first tokens ++ at.before) ++ at.token ∷ [] =
    sym (take-append-drop first tokens) ∙ (ap (λ (ts : List Token). take first tokens ++ ts) alone ∙ sym (append_assoc (take first tokens) at.before (at.token ∷ []))) in
    let ends = last-ends text (take first tokens ++ at.before) at.token (subst (λ (ts : List Token). ends_once text ts ≡ true) all are.last) in
    let (e, word) = ending-of (terminal_of text at.token) ends in
    let (x, low, words) = at.whole in
    let parts : words_of_windowed x ++ words_of_ending e ≡ terminals text (drop first tokens) =
    ap (λ l. l ++ words_of_ending e) words ∙ (ap (λ l. terminals text at.before ++ l) word ∙ (sym (map-append (terminal_of text) at.before (at.token ∷ [])) ∙ sym (ap (terminals text) alone))) in
    (x, (e, record { words = sym (ended x e) ∙ parts; limits = whole.within; levels = subst (λ (n : ℕ). n ≤ MOST_LEVELS) (levels-same x e) low }))

-- the end of a SELECT up to the last token
end-by-select : (text : List ℕ) (tokens : List Token) (first : ℕ) (r : Result ℕ Fault) → first < length tokens → IsPartEnd IsWindowed text tokens first r → HaveSelectAt text tokens first → r ≡ Ok (length tokens - 1)
end-by-select text tokens first r within end (x, (e, w)) =
    let (t, one, ends) = one-end e in
    let parts : terminals text (drop first tokens) ≡ words_of_windowed x ++ t ∷ [] = sym w.words ∙ (sym (ended x e) ∙ ap (λ l. words_of_windowed x ++ l) one) in
    let front : AreWithinLimits (words_of_windowed x) =
    subst AreWithinLimits (ap (take (length (words_of_windowed x))) parts ∙ take_at (words_of_windowed x) (t ∷ []) (length (words_of_windowed x)) refl)
    (All-take (λ t. limit_of t ≡ None) (length (words_of_windowed x)) (terminals text (drop first tokens)) w.limits) in
    let low : levels_of_windowed x ≤ MOST_LEVELS = subst (λ (n : ℕ). n ≤ MOST_LEVELS) (sym (levels-same x e)) w.levels in
    let many : length tokens - first ≡ length (words_of_windowed x) + 1 =
    sym (length-drop first tokens) ∙ (sym (length-map (drop first tokens) (terminal_of text)) ∙ (ap length parts ∙ length-append (words_of_windowed x) (t ∷ []))) in
    let place : first + length (words_of_windowed x) ≡ length tokens - 1 = omega (arith, many, within) in
    windowed-ends x t [] text tokens first r parts ends front low end ∙ ap Ok place

-- the number of the token behind a part, or its fault
abbrev pub ok : ℕ → Result ℕ Fault
ok n = Ok n

abbrev pub fails : Fault → Result ℕ Fault
fails f = Err f

-- a SELECT that does not end with its window groups
or-groups : (text : List ℕ) (tokens : List Token) (first : ℕ) (r : Result ℕ Fault) → first < length tokens → IsPartEnd IsWindowed text tokens first r → ¬ (r ≡ Ok (length tokens - 1)) →
    HaveSelectAt text tokens first ⊎ AreGrouped text (drop first tokens) → AreGrouped text (drop first tokens)
or-groups text tokens first r within end other (inl has) = absurd (other (end-by-select text tokens first r within end has))
or-groups text tokens first r within end other (inr groups) = groups

pub groups-else : (text : List ℕ) (tokens : List Token) (first : ℕ) (r : Result ℕ Fault) → first < length tokens → IsWhole text (drop first tokens) → begins_select (terminals text (drop first tokens)) ≡ true →
    IsPartEnd IsWindowed text tokens first r → ¬ (r ≡ Ok (length tokens - 1)) → AreGrouped text (drop first tokens)
groups-else text tokens first r within whole begins end other = or-groups text tokens first r within end other (select-there text (drop first tokens) whole begins)

-- the test of the end
pub ends-last : (end : ℕ) (given tokens : List Token) → given ≡ tokens → not (nat_eq (end + 1) (length given)) ≡ false → end + 1 ≡ length tokens
ends-last end given tokens same is = eqb-true _ _ (not-false (nat_eq (end + 1) (length given)) is) ∙ ap length same

pub ends-before : (end : ℕ) (given tokens : List Token) (first : ℕ) → first < length tokens → given ≡ tokens → not (nat_eq (end + 1) (length given)) ≡ true → ¬ (ok end ≡ ok (length tokens - 1))
ends-before end given tokens first within same is at =
    let place : end ≡ length tokens - 1 = cc (at) in
    let last : end + 1 ≡ length given = omega (arith, place, within, ap length same) in
    let test = eq-eqb (end + 1) (length given) last in
    absurd (cc (test, is))

pub no-end : (fault : Fault) (n : ℕ) → ¬ (fails fault ≡ ok n)
no-end fault n at = absurd (cc (at))
