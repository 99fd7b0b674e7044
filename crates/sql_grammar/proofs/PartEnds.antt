-- A part that words spell ends before a word that goes on no such part.
use Rattle.std.proofs.Common.{◌≡◌, ℕ, ◌+◌, ◌≤◌, true, List, [], ◌∷◌, ◌++◌, length, drop, None, Result, Ok, Err, refl, sym, ap, ◌∙◌, subst, append_assoc, append-nil}
use Rattle.std.proofs.lemmas.List.{map-append, length-map}
use Rattle.std.proofs.lemmas.List.Elements.{All-head, All-tail}
use Rattle.pg_base.specs.declared.faults.Code.{Code}
use Rattle.pg_base.specs.declared.faults.Code.TheVariants.{S1, S15}
use Rattle.pg_base.specs.declared.faults.Limit.TheVariants.{Depth}
use Rattle.pg_base.specs.declared.faults.Fault.{Fault}
use Rattle.pg_base.specs.declared.limits.TheConstants.{MOST_LEVELS}
use Rattle.sql_lex.specs.declared.tokens.Token.{Token}
use Rattle.sql_grammar.specs.declared.class.Symbol.TheVariants.{Close, Comma}
use Rattle.sql_grammar.specs.Terminals.{Terminal, t_mark, t_semicolon, t_end}
use Rattle.sql_grammar.specs.Reading.{terminal_of}
use Rattle.sql_grammar.specs.Syntax.{WindowedSelect, Cand}
use Rattle.sql_grammar.specs.Words.{words_of_windowed, words_of_cand, levels_of_windowed, levels_of_cand}
use Rattle.sql_grammar.specs.work.Unique.{ends_windowed, ends_cand}
use Rattle.sql_grammar.specs.Faults.{Production, IsPrefix, IsAtFault, IsFirstFault, AreWithinLimits, limit_of, terminals}
use Rattle.sql_grammar.specs.work.Faults.{IsWindowed, IsCand, EndsAt, IsPartEnd}
use Rattle.sql_grammar.proofs.OrderTrees.{one_windowed}
use Rattle.sql_grammar.proofs.IndexTrees.{one_cand}

-- two places in one list: the first word of the one, t, stands before that of the other, c, at it or behind it
data Places (bs ts : List Terminal) (t c : Terminal) : Type 0 where
  before : (us : List Terminal) → ts ≡ bs ++ t ∷ us → Places bs ts t c
  at : bs ≡ ts → t ≡ c → Places bs ts t c
  behind : (us : List Terminal) → bs ≡ ts ++ c ∷ us → Places bs ts t c

later : (b u t c : Terminal) (bs ts : List Terminal) → b ≡ u → Places bs ts t c → Places (b ∷ bs) (u ∷ ts) t c
later b u t c bs ts e (before us is) = before us (ap (λ l. u ∷ l) is ∙ ap (λ w. w ∷ (bs ++ t ∷ us)) (sym e))
later b u t c bs ts e (at is word) = at (ap (λ l. b ∷ l) is ∙ ap (λ w. w ∷ ts) e) word
later b u t c bs ts e (behind us is) = behind us (ap (λ l. b ∷ l) is ∙ ap (λ w. w ∷ (ts ++ c ∷ us)) e)

places : (bs ts : List Terminal) (t c : Terminal) (x y : List Terminal) → bs ++ t ∷ x ≡ ts ++ c ∷ y → Places bs ts t c
places [] [] t c x y e = let word : t ≡ c = cc (e) in at refl word
places [] (u ∷ us) t c x y e = let word : u ≡ t = cc (e) in before us (ap (λ w. w ∷ us) word)
places (b ∷ bs) [] t c x y e = let word : b ≡ c = cc (e) in behind bs (ap (λ w. w ∷ bs) word)
places (b ∷ bs) (u ∷ us) t c x y e = let word : b ≡ u = cc (e) in later b u t c bs us word (places bs us t c x y (ap (drop 1) e))

within-at : (bs us : List Terminal) (t : Terminal) → AreWithinLimits (bs ++ t ∷ us) → limit_of t ≡ None
within-at [] us t all = All-head (λ w. limit_of w ≡ None) t us all
within-at (b ∷ bs) us t all = within-at bs us t (All-tail (λ w. limit_of w ≡ None) b (bs ++ t ∷ us) all)

module _ (Of : Production) (ts : List Terminal) (c : Terminal) (whole : Of MOST_LEVELS ts) (within : AreWithinLimits ts) (apart : (limit : ℕ) → ¬ IsPrefix Of limit (ts ++ c ∷ [])) where
  begun : (bs us : List Terminal) (t : Terminal) → ts ≡ bs ++ t ∷ us → IsPrefix Of MOST_LEVELS (bs ++ t ∷ [])
  begun bs us t is = (us, subst (Of MOST_LEVELS) (is ∙ sym (append_assoc bs (t ∷ []) us)) whole)

  past : (limit : ℕ) (bs us : List Terminal) → bs ≡ ts ++ c ∷ us → IsPrefix Of limit bs → ⊥
  past limit bs us is (rest, of) =
      apart limit (us ++ rest, subst (Of limit) (ap (λ l. l ++ rest) is ∙ (append_assoc ts (c ∷ us) rest ∙ sym (append_assoc ts (c ∷ []) (us ++ rest)))) of)

  before-fault : (bs us : List Terminal) (t : Terminal) (code : Code) → ts ≡ bs ++ t ∷ us → IsAtFault Of bs t code → ⊥
  before-fault bs us t S1 is cause = cause MOST_LEVELS (begun bs us t is)
  before-fault bs us t (S15 Depth) is cause = cause.0 (begun bs us t is)
  before-fault bs us t (S15 limit) is cause = let none = within-at bs us t (subst AreWithinLimits is within) in absurd (cc (none, cause.1))
  before-fault bs us t _ is cause = cause

  at-fault : (bs : List Terminal) (t : Terminal) (code : Code) → bs ≡ ts → t ≡ c → (code ≡ S1 → (limit : ℕ) → ¬ Of limit bs) → IsAtFault Of bs t code → ⊥
  at-fault bs t S1 is word open' cause = open' refl MOST_LEVELS (subst (Of MOST_LEVELS) (sym is) whole)
  at-fault bs t (S15 Depth) is word open' cause = apart (MOST_LEVELS + 1) (subst (λ w. IsPrefix Of (MOST_LEVELS + 1) (ts ++ w ∷ [])) word (subst (λ l. IsPrefix Of (MOST_LEVELS + 1) (l ++ t ∷ [])) is cause.1))
  at-fault bs t (S15 limit) is word open' cause = apart MOST_LEVELS (subst (λ w. IsPrefix Of MOST_LEVELS (ts ++ w ∷ [])) word (subst (λ l. IsPrefix Of MOST_LEVELS (l ++ t ∷ [])) is cause.0))
  at-fault bs t _ is word open' cause = cause

  split-words : (text : List ℕ) (tokens bs as' : List Token) (t : Token) (y : List Terminal) → tokens ≡ bs ++ t ∷ as' → terminals text tokens ≡ ts ++ c ∷ y →
      Places (terminals text bs) ts (terminal_of text t) c
  split-words text tokens bs as' t y split is =
      places (terminals text bs) ts (terminal_of text t) c (terminals text as') y (sym (map-append (terminal_of text) bs (t ∷ as')) ∙ (ap (terminals text) (sym split) ∙ is))

  no-fault : (text : List ℕ) (tokens : List Token) (fault : Fault) (w : IsFirstFault Of text tokens fault) → Places (terminals text w.before) ts (terminal_of text w.token) c → ⊥
  no-fault text tokens fault w (before us is) = before-fault (terminals text w.before) us (terminal_of text w.token) fault.code is w.cause
  no-fault text tokens fault w (at is word) = at-fault (terminals text w.before) (terminal_of text w.token) fault.code is word w.unfinished w.cause
  no-fault text tokens fault w (behind us is) = past MOST_LEVELS (terminals text w.before) us is w.begins

  end-at : (text : List ℕ) (tokens : List Token) (first end : ℕ) (w : EndsAt Of text tokens first end) → Places (terminals text w.before) ts (terminal_of text w.token) c → end ≡ first + length ts
  end-at text tokens first end w (before us is) = absurd (w.longest MOST_LEVELS (begun (terminals text w.before) us (terminal_of text w.token) is))
  end-at text tokens first end w (at is word) = w.place ∙ ap (λ n. first + n) (sym (length-map w.before (terminal_of text)) ∙ ap length is)
  end-at text tokens first end w (behind us is) = absurd (past MOST_LEVELS (terminals text w.before) us is ([], subst (Of MOST_LEVELS) (sym (append-nil (terminals text w.before))) w.whole))

  -- the part ends there
  pub ends-there : (text : List ℕ) (tokens : List Token) (first : ℕ) (y : List Terminal) (r : Result ℕ Fault) → terminals text (drop first tokens) ≡ ts ++ c ∷ y → IsPartEnd Of text tokens first r → r ≡ Ok (first + length ts)
  ends-there text tokens first y (Ok end) is w = ap Ok (end-at text tokens first end w (split-words text (drop first tokens) w.before w.after w.token y w.split is))
  ends-there text tokens first y (Err fault) is w = absurd (no-fault text (drop first tokens) fault w (split-words text (drop first tokens) w.before w.after w.token y w.split is))

-- what goes on no such part goes by its first word
windowed-head : (c : Terminal) (x y : List Terminal) → ends_windowed (c ∷ x) ≡ true → ends_windowed (c ∷ y) ≡ true
windowed-head (t_mark Close _) x y h = refl
windowed-head (t_semicolon _) x y h = refl
windowed-head (t_end _) x y h = refl
windowed-head _ x y h = absurd (cc)

cand-head : (c : Terminal) (x y : List Terminal) → ends_cand (c ∷ x) ≡ true → ends_cand (c ∷ y) ≡ true
cand-head (t_mark Comma _) x y h = refl
cand-head (t_mark Close _) x y h = refl
cand-head (t_semicolon _) x y h = refl
cand-head (t_end _) x y h = refl
cand-head _ x y h = absurd (cc)

windowed-apart : (a : WindowedSelect) (c : Terminal) (x : List Terminal) → ends_windowed (c ∷ x) ≡ true → (limit : ℕ) → ¬ IsPrefix IsWindowed limit (words_of_windowed a ++ c ∷ [])
windowed-apart a c x h limit (rest, (b, low, is)) =
    let (same, none) = one_windowed b a [] (c ∷ rest) refl (windowed-head c x rest h) (append-nil (words_of_windowed b) ∙ (is ∙ append_assoc (words_of_windowed a) (c ∷ []) rest)) in
    absurd (cc (none))

cand-apart : (a : Cand) (c : Terminal) (x : List Terminal) → ends_cand (c ∷ x) ≡ true → (limit : ℕ) → ¬ IsPrefix IsCand limit (words_of_cand a ++ c ∷ [])
cand-apart a c x h limit (rest, (b, low, is)) =
    let (same, none) = one_cand b a [] (c ∷ rest) refl (cand-head c x rest h) (append-nil (words_of_cand b) ∙ (is ∙ append_assoc (words_of_cand a) (c ∷ []) rest)) in
    absurd (cc (none))

pub windowed-ends : (a : WindowedSelect) (c : Terminal) (x : List Terminal) (text : List ℕ) (tokens : List Token) (first : ℕ) (r : Result ℕ Fault) →
    terminals text (drop first tokens) ≡ words_of_windowed a ++ c ∷ x → ends_windowed (c ∷ x) ≡ true → AreWithinLimits (words_of_windowed a) → levels_of_windowed a ≤ MOST_LEVELS →
    IsPartEnd IsWindowed text tokens first r → r ≡ Ok (first + length (words_of_windowed a))
windowed-ends a c x text tokens first r is h within low = ends-there IsWindowed (words_of_windowed a) c (a, low, refl) within (windowed-apart a c x h) text tokens first x r is

pub cand-ends : (a : Cand) (c : Terminal) (x : List Terminal) (text : List ℕ) (tokens : List Token) (first : ℕ) (r : Result ℕ Fault) →
    terminals text (drop first tokens) ≡ words_of_cand a ++ c ∷ x → ends_cand (c ∷ x) ≡ true → AreWithinLimits (words_of_cand a) → levels_of_cand a ≤ MOST_LEVELS →
    IsPartEnd IsCand text tokens first r → r ≡ Ok (first + length (words_of_cand a))
cand-ends a c x text tokens first r is h within low = ends-there IsCand (words_of_cand a) c (a, low, refl) within (cand-apart a c x h) text tokens first x r is
