-- A list of words is spelled by one list of common values with their shares, and by one histogram.
use Rattle.std.proofs.Common.{◌≡◌, Bool, true, false, List, [], ◌∷◌, ◌++◌, drop, refl, sym, ap, ◌∙◌}
use Rattle.std.proofs.lemmas.List.{append_assoc}
use Rattle.sql_lex.specs.declared.tokens.Token.{Token}
use Rattle.sql_grammar.specs.declared.class.Free.TheVariants.{Common as CommonWord, Histogram as HistogramWord}
use Rattle.sql_grammar.specs.declared.class.Symbol.TheVariants.{Open, Close, Comma}
use Rattle.sql_grammar.specs.Terminals.{Terminal, free, t_mark, t_name, t_number}
use Rattle.sql_grammar.specs.Syntax.{Mark, Lit, Share, share, CommonPart, no_common, common, Histogram, no_histogram, histogram}
use Rattle.sql_grammar.specs.Words.{words_of_lit, words_of_share, words_of_shares, words_of_common, words_of_bounds, words_of_histogram}
use Rattle.sql_grammar.proofs.ListLemmas.{one_list}
use Rattle.sql_grammar.proofs.ExprTrees.{bounds_closed, one_bounds, one_lit, tested}

-- no COMMON is next
abbrev pub ends_common : List Terminal → Bool
ends_common (t_name (free CommonWord _) ∷ _) = false
ends_common _ = true

-- no HISTOGRAM is next
abbrev pub ends_histogram : List Terminal → Bool
ends_histogram (t_name (free HistogramWord _) ∷ _) = false
ends_histogram _ = true

one_share : (a b : Share) (x y : List Terminal) → words_of_share a ++ x ≡ words_of_share b ++ y → (a ≡ b) × (x ≡ y)
one_share (share l n) (share k m) x y e =
    let (value, rest) = one_lit l k (t_number n ∷ x) (t_number m ∷ y)
    (sym (append_assoc (words_of_lit l) (t_number n ∷ []) x) ∙ (e ∙ append_assoc (words_of_lit k) (t_number m ∷ []) y)) in
    let part : n ≡ m = cc (rest) in
    (cc (value, part), ap (drop 1) rest)

-- further ones and what closes them
abbrev shares_closed : List (Mark × Share) → Mark → List Terminal → List Terminal
shares_closed ss m x = words_of_shares ss ++ t_mark Close m ∷ x

one_shares : (ss us : List (Mark × Share)) (m n : Mark) (x y : List Terminal) → shares_closed ss m x ≡ shares_closed us n y → (ss ≡ us) × (m ≡ n) × (x ≡ y)
one_shares = one_list Share words_of_share words_of_shares (t_mark Close) (λ x. true) (λ m x. refl)
    (λ t s ss m x. ap (λ l. t_mark Comma t ∷ l) (append_assoc (words_of_share s) (words_of_shares ss) (t_mark Close m ∷ x)))
    (λ m n x y e. cc (e)) (λ m t x y e. absurd (cc (e))) (λ ss m x. refl) (λ a b x y h k e. one_share a b x y e)

common-words : (k : Token) (o : Mark) (s : Share) (ss : List (Mark × Share)) (m : Mark) (x : List Terminal) →
    words_of_common (common k o s ss m) ++ x ≡ t_name (free CommonWord k) ∷ t_mark Open o ∷ (words_of_share s ++ shares_closed ss m x)
common-words k o s ss m x =
    ap (λ l. t_name (free CommonWord k) ∷ t_mark Open o ∷ l)
    (append_assoc (words_of_share s) (words_of_shares ss ++ t_mark Close m ∷ []) x ∙ ap (λ l. words_of_share s ++ l) (append_assoc (words_of_shares ss) (t_mark Close m ∷ []) x))

pub one_common : (a b : CommonPart) (x y : List Terminal) → ends_common x ≡ true → ends_common y ≡ true → words_of_common a ++ x ≡ words_of_common b ++ y → (a ≡ b) × (x ≡ y)
one_common no_common no_common x y h k e = (refl, e)
one_common no_common (common j o s ss m) x y h k e = absurd (tested ends_common x (words_of_common (common j o s ss m) ++ y) h refl e)
one_common (common i o s ss m) no_common x y h k e = absurd (tested ends_common y (words_of_common (common i o s ss m) ++ x) k refl (sym e))
one_common (common i o s ss m) (common j p u us n) x y h k e =
    let whole = sym (common-words i o s ss m x) ∙ (e ∙ common-words j p u us n y) in
    let word : i ≡ j = cc (whole) in
    let mark : o ≡ p = cc (whole) in
    let (first, more) = one_share s u (shares_closed ss m x) (shares_closed us n y) (ap (drop 2) whole) in
    let (others, close, rest) = one_shares ss us m n x y more in
    (cc (word, mark, first, others, close), rest)

histogram-words : (k : Token) (o : Mark) (l : Lit) (ls : List (Mark × Lit)) (m : Mark) (x : List Terminal) →
    words_of_histogram (histogram k o l ls m) ++ x ≡ t_name (free HistogramWord k) ∷ t_mark Open o ∷ (words_of_lit l ++ bounds_closed ls m x)
histogram-words k o l ls m x =
    ap (λ r. t_name (free HistogramWord k) ∷ t_mark Open o ∷ r)
    (append_assoc (words_of_lit l) (words_of_bounds ls ++ t_mark Close m ∷ []) x ∙ ap (λ r. words_of_lit l ++ r) (append_assoc (words_of_bounds ls) (t_mark Close m ∷ []) x))

pub one_histogram : (a b : Histogram) (x y : List Terminal) → ends_histogram x ≡ true → ends_histogram y ≡ true → words_of_histogram a ++ x ≡ words_of_histogram b ++ y → (a ≡ b) × (x ≡ y)
one_histogram no_histogram no_histogram x y h k e = (refl, e)
one_histogram no_histogram (histogram j o l ls m) x y h k e = absurd (tested ends_histogram x (words_of_histogram (histogram j o l ls m) ++ y) h refl e)
one_histogram (histogram i o l ls m) no_histogram x y h k e = absurd (tested ends_histogram y (words_of_histogram (histogram i o l ls m) ++ x) k refl (sym e))
one_histogram (histogram i o l ls m) (histogram j p u us n) x y h k e =
    let whole = sym (histogram-words i o l ls m x) ∙ (e ∙ histogram-words j p u us n y) in
    let word : i ≡ j = cc (whole) in
    let mark : o ≡ p = cc (whole) in
    let (first, more) = one_lit l u (bounds_closed ls m x) (bounds_closed us n y) (ap (drop 2) whole) in
    let (others, close, rest) = one_bounds ls us m n x y more in
    (cc (word, mark, first, others, close), rest)
