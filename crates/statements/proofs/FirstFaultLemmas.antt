-- Tokens have one first fault of syntax, and none where they are a statement within the limits.
use Rattle.std.proofs.Common.{◌≡◌, ◌+◌, ◌⊎◌, inl, inr, ℕ, List, [], ◌∷◌, ◌++◌, drop, refl, sym, ap, ◌∙◌, subst, Some, None}
use Rattle.std.proofs.lemmas.List.{append_assoc, append-nil, map-append}
use Rattle.std.proofs.lemmas.List.Elements.{All-head, All-tail}
use Rattle.pg_base.specs.declared.faults.Code.{Code}
use Rattle.pg_base.specs.declared.faults.Code.TheVariants.{S1, S15}
use Rattle.pg_base.specs.declared.faults.Limit.{Limit}
use Rattle.pg_base.specs.declared.faults.Limit.TheVariants.{Depth}
use Rattle.pg_base.specs.declared.faults.Fault.{Fault}
use Rattle.sql_lex.specs.declared.tokens.Token.{Token}
use Rattle.sql_grammar.specs.Terminals.{Terminal}
use Rattle.sql_grammar.specs.Reading.{terminal_of}
use Rattle.sql_grammar.specs.Syntax.{Statement}
use Rattle.sql_grammar.specs.Spelled.{IsSpelled}
use Rattle.pg_base.specs.declared.limits.TheConstants.{MOST_LEVELS}
use Rattle.sql_grammar.specs.Faults.{Production, IsStatement, IsPrefix, limit_of, AreWithinLimits, terminals, IsAtFault, fault_at, IsFirstFault}

-- what a terminal in error does, by its kind of fault
abbrev Cause : Production → List Terminal → Terminal → Code → Type 0
Cause Of before t code =
    ((code ≡ S1) × ((limit : ℕ) → IsPrefix Of limit (before ++ t ∷ []) → ⊥))
    ⊎ (((code ≡ S15 Depth) × (IsPrefix Of MOST_LEVELS (before ++ t ∷ []) → ⊥) × IsPrefix Of (MOST_LEVELS + 1) (before ++ t ∷ []))
    ⊎ ((limit : Limit) × (code ≡ S15 limit) × IsPrefix Of MOST_LEVELS (before ++ t ∷ []) × (limit_of t ≡ Some limit)))

cause : (Of : Production) (before : List Terminal) (t : Terminal) (code : Code) → IsAtFault Of before t code → Cause Of before t code
cause Of before t S1 h = inl (refl, h)
cause Of before t (S15 Depth) h = inr (inl (refl, h.0, h.1))
cause Of before t (S15 limit) h = inr (inr (limit, refl, h.0, h.1))
cause Of before t _ h = absurd h

-- one terminal after others has one kind of fault
one_code : (Of : Production) (before : List Terminal) (t : Terminal) (c d : Code) → Cause Of before t c → Cause Of before t d → c ≡ d
one_code Of before t c d (inl (e, h)) (inl (f, k)) = e ∙ sym f
one_code Of before t c d (inl (e, h)) (inr (inl (f, k, l))) = absurd (h (MOST_LEVELS + 1) l)
one_code Of before t c d (inl (e, h)) (inr (inr (limit, f, k, l))) = absurd (h MOST_LEVELS k)
one_code Of before t c d (inr (inl (e, h, g))) (inl (f, k)) = absurd (k (MOST_LEVELS + 1) g)
one_code Of before t c d (inr (inl (e, h, g))) (inr (inl (f, k, l))) = e ∙ sym f
one_code Of before t c d (inr (inl (e, h, g))) (inr (inr (limit, f, k, l))) = absurd (h k)
one_code Of before t c d (inr (inr (one, e, h, g))) (inl (f, k)) = absurd (k MOST_LEVELS h)
one_code Of before t c d (inr (inr (one, e, h, g))) (inr (inl (f, k, l))) = absurd (k h)
one_code Of before t c d (inr (inr (one, e, h, g))) (inr (inr (limit, f, k, l))) =
    let same : Some one ≡ Some limit = sym g ∙ l in
    let limits : one ≡ limit = cc in
    e ∙ (ap S15 limits ∙ sym f)

-- where the production goes on with a terminal within its limits, the terminal is not in error
no_cause : (Of : Production) (before : List Terminal) (t : Terminal) (code : Code) → Cause Of before t code → IsPrefix Of MOST_LEVELS (before ++ t ∷ []) → limit_of t ≡ None → ⊥
no_cause Of before t code (inl (e, h)) goes within = h MOST_LEVELS goes
no_cause Of before t code (inr (inl (e, h, g))) goes within = h goes
no_cause Of before t code (inr (inr (limit, e, h, g))) goes within = let same : Some limit ≡ None = sym g ∙ within in absurd (cc)

-- the first part of a prefix is one
first_part : (Of : Production) (limit : ℕ) (a b : List Terminal) → IsPrefix Of limit (a ++ b) → IsPrefix Of limit a
first_part Of limit a b (rest, h) = (b ++ rest, subst (λ l. Of limit l) (append_assoc a b rest) h)

-- a split of tokens at one of them, seen as terminals
split : (text : List ℕ) (before : List Token) (token : Token) (after : List Token) →
    terminals text (before ++ token ∷ after) ≡ (terminals text before ++ terminal_of text token ∷ []) ++ terminals text after
split text before token after = map-append (terminal_of text) before (token ∷ after) ∙ sym (append_assoc (terminals text before) (terminal_of text token ∷ []) (terminals text after))

within-at : (a : List Terminal) (t : Terminal) (b : List Terminal) → AreWithinLimits ((a ++ t ∷ []) ++ b) → limit_of t ≡ None
within-at [] t b h = All-head (λ i. limit_of i ≡ None) t b h
within-at (x ∷ a) t b h = within-at a t b (All-tail (λ i. limit_of i ≡ None) x ((a ++ t ∷ []) ++ b) h)

-- no token of a list is in error that begins the production within the limits
no_fault_in : (Of : Production) (text : List ℕ) (tokens before : List Token) (token : Token) (after : List Token) (code : Code) → tokens ≡ before ++ token ∷ after
    → IsPrefix Of MOST_LEVELS (terminals text tokens) → AreWithinLimits (terminals text tokens) → IsAtFault Of (terminals text before) (terminal_of text token) code → ⊥
no_fault_in Of text tokens before token after code e begins within at =
    let is = ap (terminals text) e ∙ split text before token after in
    no_cause Of (terminals text before) (terminal_of text token) code (cause Of (terminals text before) (terminal_of text token) code at)
    (first_part Of MOST_LEVELS (terminals text before ++ terminal_of text token ∷ []) (terminals text after) (subst (λ l. IsPrefix Of MOST_LEVELS l) is begins))
    (within-at (terminals text before) (terminal_of text token) (terminals text after) (subst AreWithinLimits is within))

-- two splits of a list: at one place, or one before the other
abbrev Places : (a : List Token) (t : Token) (b : List Token) (u : Token) → Type 0
Places a t b u = ((a ≡ b) × (t ≡ u)) ⊎ (((rest : List Token) × (b ≡ a ++ t ∷ rest)) ⊎ ((rest : List Token) × (a ≡ b ++ u ∷ rest)))

places_more : (x y : Token) (a b : List Token) (t u : Token) → x ≡ y → Places a t b u → Places (x ∷ a) t (y ∷ b) u
places_more x y a b t u e (inl (h, k)) = inl (ap (λ i. i ∷ a) e ∙ ap (λ i. y ∷ i) h, k)
places_more x y a b t u e (inr (inl (rest, h))) = inr (inl (rest, ap (λ i. y ∷ i) h ∙ ap (λ i. i ∷ (a ++ t ∷ rest)) (sym e)))
places_more x y a b t u e (inr (inr (rest, h))) = inr (inr (rest, ap (λ i. x ∷ i) h ∙ ap (λ i. i ∷ (b ++ u ∷ rest)) e))

places : (a b : List Token) (t u : Token) (r s : List Token) → a ++ t ∷ r ≡ b ++ u ∷ s → Places a t b u
places [] [] t u r s e = inl (refl, cc)
places [] (y ∷ b) t u r s e = let first : t ≡ y = cc in inr (inl (b, ap (λ i. i ∷ b) (sym first)))
places (x ∷ a) [] t u r s e = let first : x ≡ u = cc in inr (inr (a, ap (λ i. i ∷ a) first))
places (x ∷ a) (y ∷ b) t u r s e = places_more x y a b t u (cc) (places a b t u r s (ap (drop 1) e))

same_fault : (Of : Production) (text : List ℕ) (tokens : List Token) (f g : Fault) (p : IsFirstFault Of text tokens f) (q : IsFirstFault Of text tokens g) → p.before ≡ q.before → p.token ≡ q.token → f ≡ g
same_fault Of text tokens f g p q b t =
    let other : IsAtFault Of (terminals text p.before) (terminal_of text p.token) g.code =
    subst (λ l. IsAtFault Of (terminals text l) (terminal_of text p.token) g.code) (sym b) (subst (λ i. IsAtFault Of (terminals text q.before) (terminal_of text i) g.code) (sym t) q.cause) in
    let code : f.code ≡ g.code = one_code Of (terminals text p.before) (terminal_of text p.token) f.code g.code
    (cause Of (terminals text p.before) (terminal_of text p.token) f.code p.cause) (cause Of (terminals text p.before) (terminal_of text p.token) g.code other) in
    p.place ∙ (ap (λ c. fault_at c p.token) code ∙ (ap (λ i. fault_at g.code i) t ∙ sym q.place))

by_places : (Of : Production) (text : List ℕ) (tokens : List Token) (f g : Fault) (p : IsFirstFault Of text tokens f) (q : IsFirstFault Of text tokens g) → Places p.before p.token q.before q.token → f ≡ g
by_places Of text tokens f g p q (inl (b, t)) = same_fault Of text tokens f g p q b t
by_places Of text tokens f g p q (inr (inl (rest, b))) = absurd (no_fault_in Of text q.before p.before p.token rest f.code b q.begins q.within p.cause)
by_places Of text tokens f g p q (inr (inr (rest, b))) = absurd (no_fault_in Of text p.before q.before q.token rest g.code b p.begins p.within q.cause)

-- tokens have one first fault
pub one_first : (Of : Production) (text : List ℕ) (tokens : List Token) (f g : Fault) → IsFirstFault Of text tokens f → IsFirstFault Of text tokens g → f ≡ g
one_first Of text tokens f g p q =
    by_places Of text tokens f g p q (places p.before q.before p.token q.token p.after q.after (sym p.split ∙ q.split))

-- a statement within the limits has no first fault
pub no_first : (text : List ℕ) (tokens : List Token) (x : Statement) (f : Fault) → IsSpelled x text tokens → IsFirstFault IsStatement text tokens f → ⊥
no_first text tokens x f is p =
    no_fault_in IsStatement text tokens p.before p.token p.after f.code p.split ([], (x, is.levels, is.words ∙ sym (append-nil (terminals text tokens)))) is.limits p.cause
