-- A list of words is spelled by one ADVISE, one CHECK and one USE PLAN.
use Rattle.std.proofs.Common.{◌≡◌, Bool, true, false, List, [], ◌∷◌, ◌++◌, drop, refl, sym, ap, ◌∙◌}
use Rattle.std.proofs.lemmas.List.{append_assoc}
use Rattle.sql_lex.specs.declared.tokens.Token.{Token}
use Rattle.sql_grammar.specs.declared.class.Symbol.TheVariants.{Open, Close, Comma}
use Rattle.sql_grammar.specs.declared.offered.TheConstants.{READS_ADVISE}
use Rattle.sql_grammar.specs.Terminals.{Terminal, t_mark, t_semicolon}
use Rattle.sql_grammar.specs.Syntax.{Mark, Select, OrderBy, WindowedSelect, Cand, Advised, advised, Advise, advise_of, Ending, semicolon, text_end}
use Rattle.sql_grammar.specs.work.Unique.{ends_cand}
use Rattle.sql_grammar.specs.Words.{words_of_select, words_of_order, words_of_windowed, words_of_cand, words_of_cands, words_of_advised, words_of_more_advised, words_of_advise, words_of_ending}
use Rattle.sql_grammar.proofs.ExprTrees.{one_offered, tested}
use Rattle.sql_grammar.proofs.ListLemmas.{one_list}
use Rattle.sql_grammar.proofs.Trees.{one_ending}
use Rattle.sql_grammar.proofs.OrderTrees.{one_sorted, one_windowed}
use Rattle.sql_grammar.proofs.IndexTrees.{one_cand}

-- further candidates and what closes them
abbrev closed : List (Mark × Cand) → Mark → List Terminal → List Terminal
closed cs m x = words_of_cands cs ++ t_mark Close m ∷ x

closed-ends : (cs : List (Mark × Cand)) (m : Mark) (x : List Terminal) → ends_cand (closed cs m x) ≡ true
closed-ends [] m x = refl
closed-ends ((t, c) ∷ cs) m x = refl

one_cands : (cs ds : List (Mark × Cand)) (m n : Mark) (x y : List Terminal) → closed cs m x ≡ closed ds n y → (cs ≡ ds) × (m ≡ n) × (x ≡ y)
one_cands = one_list Cand words_of_cand words_of_cands (t_mark Close) ends_cand (λ m x. refl)
    (λ t c cs m x. ap (λ l. t_mark Comma t ∷ l) (append_assoc (words_of_cand c) (words_of_cands cs) (t_mark Close m ∷ x)))
    (λ m n x y e. cc (e)) (λ m t x y e. absurd (cc (e))) closed-ends one_cand

one_advised : (a b : Advised) (x y : List Terminal) → words_of_advised a ++ x ≡ words_of_advised b ++ y → (a ≡ b) × (x ≡ y)
one_advised (advised o a m) (advised p b n) x y e =
    let opens : o ≡ p = cc (e) in
    let (first, more) = one_windowed a b (t_mark Close m ∷ x) (t_mark Close n ∷ y) refl refl
    (sym (append_assoc (words_of_windowed a) (t_mark Close m ∷ []) x) ∙ (ap (drop 1) e ∙ append_assoc (words_of_windowed b) (t_mark Close n ∷ []) y)) in
    let closes : m ≡ n = cc (more) in
    (cc (opens, first, closes), ap (drop 1) more)

-- no further SELECT is next
abbrev openless : List Terminal → Bool
openless (t_mark Open _ ∷ _) = false
openless _ = true

ending-openless : (e : Ending) → openless (words_of_ending e) ≡ true
ending-openless (semicolon t) = refl
ending-openless (text_end t) = refl

one_more : (xs ys : List Advised) (x y : List Terminal) → openless x ≡ true → openless y ≡ true → words_of_more_advised xs ++ x ≡ words_of_more_advised ys ++ y → (xs ≡ ys) × (x ≡ y)
one_more [] [] x y h k e = (refl, e)
one_more [] (advised p b n ∷ ys) x y h k e = absurd (tested openless x (words_of_more_advised (advised p b n ∷ ys) ++ y) h refl e)
one_more (advised o a m ∷ xs) [] x y h k e = absurd (tested openless y (words_of_more_advised (advised o a m ∷ xs) ++ x) k refl (sym e))
one_more (a ∷ xs) (b ∷ ys) x y h k e =
    let (first, more) = one_advised a b (words_of_more_advised xs ++ x) (words_of_more_advised ys ++ y)
    (sym (append_assoc (words_of_advised a) (words_of_more_advised xs) x) ∙ (e ∙ append_assoc (words_of_advised b) (words_of_more_advised ys) y)) in
    let (others, rest) = one_more xs ys x y h k more in
    (cc (first, others), rest)

pub one_advise : (x y : Advise) → words_of_advise x ≡ words_of_advise y → x ≡ y
one_advise (advise_of p k n o c cs m x xs e) (advise_of q l i u d ds j y ys f) h =
    let offered = one_offered READS_ADVISE p q in
    let word : k ≡ l = cc (h) in
    let most : n ≡ i = cc (h) in
    let opens : o ≡ u = cc (h) in
    let rest : List Terminal = words_of_advised x ++ (words_of_more_advised xs ++ words_of_ending e) in
    let last : List Terminal = words_of_advised y ++ (words_of_more_advised ys ++ words_of_ending f) in
    let (first, more) = one_cand c d (closed cs m rest) (closed ds j last) (closed-ends cs m rest) (closed-ends ds j last) (ap (drop 3) h) in
    let (others, closes, behind) = one_cands cs ds m j rest last more in
    let (asked, further) = one_advised x y (words_of_more_advised xs ++ words_of_ending e) (words_of_more_advised ys ++ words_of_ending f) behind in
    let (selects, end) = one_more xs ys (words_of_ending e) (words_of_ending f) (ending-openless e) (ending-openless f) further in
    let ends = one_ending e f end in
    cc (offered, word, most, opens, first, others, closes, asked, selects, ends)

pub one_stopped : (x y : WindowedSelect) (s t : Token) → words_of_windowed x ++ t_semicolon s ∷ [] ≡ words_of_windowed y ++ t_semicolon t ∷ [] → (x ≡ y) × (s ≡ t)
one_stopped x y s t e = let (same, rest) = one_windowed x y (t_semicolon s ∷ []) (t_semicolon t ∷ []) refl refl e in (same, cc (rest))

pub one_planned : (p q : Select) (a b : OrderBy) (s t : Token) → words_of_select p ++ (words_of_order a ++ t_semicolon s ∷ []) ≡ words_of_select q ++ (words_of_order b ++ t_semicolon t ∷ []) →
    (p ≡ q) × (a ≡ b) × (s ≡ t)
one_planned p q a b s t e =
    let (same, order, rest) = one_sorted p q a b (t_semicolon s ∷ []) (t_semicolon t ∷ []) (record { order = refl; none = refl; select = refl }) (record { order = refl; none = refl; select = refl }) e in
    (same, order, cc (rest))
