-- A text has one reading: its words and its fault are determined.
use Rattle.std.proofs.Common.{◌≡◌, ◌≤◌, ℕ, ◌+◌, ◌-◌, Bool, true, false, Some, List, [], ◌∷◌, ◌++◌, length, get_or, drop, refl, ap, sym, ◌∙◌, arith}
use Rattle.std.specs.Prelude.{slice_range, MatchBool}
use Rattle.std.specs.List.{prefix_len}
use Rattle.std.specs.Char.{is_ascii_digit}
use Rattle.std.proofs.lemmas.List.{length-drop, drop-drop, length-take, take-append-drop, append_cancel_right}
use Rattle.sql_lex.specs.declared.tokens.Kind.{Kind}
use Rattle.sql_lex.specs.declared.tokens.Kind.TheVariants.{Word, Number, Quoted, Symbol, End}
use Rattle.sql_lex.specs.declared.tokens.Token.{Token}
use Rattle.sql_lex.specs.Letters.{is_space, is_in_line, is_in_word}
use Rattle.sql_lex.specs.Blanks.{IsBlank, space, line, comment, PassesBlanks, none, more, HasNoBlank}
use Rattle.sql_lex.specs.Forms.{IsToken}
use Rattle.sql_lex.specs.Words.{EndsBlanks, IsNext, IsStuck, is_last, AreWords, StopsAt}
use Rattle.sql_lex.proofs.RunLaws.{same_run, same_split}
use Rattle.sql_lex.proofs.CommentLaws.{closing, closing-comment}
use Rattle.sql_lex.proofs.QuoteLaws.{past_quote, past_quote-spelled}
use Rattle.sql_lex.proofs.KindLaws.{kind_of, kind_is}
use Rattle.sql_lex.proofs.FormLaws.{word_run, number_run, quote_front}

space_not : (b c : ℕ) → is_space b ≡ true → b ≡ c → is_space c ≡ false → ⊥
space_not b c h e other = let also = rw e at h in cc

dash_slash : (x y : List ℕ) → 45 ∷ x ≡ 47 ∷ y → ⊥
dash_slash x y e = omega (arith, ap (λ (l : List ℕ). get_or l 0 0) e)

-- the white space or comment at a place ends at one place
one_blank : (a r b s : List ℕ) → IsBlank a r → IsBlank b s → a ++ r ≡ b ++ s → r ≡ s
one_blank _ r _ s (space b _ h) (space c _ k) e = cc
one_blank _ r _ s (space b _ h) (line bs _ all next) e = let first : b ≡ 45 = cc in absurd (space_not b 45 h first refl)
one_blank _ r _ s (space b _ h) (comment bs _ inside) e = let first : b ≡ 47 = cc in absurd (space_not b 47 h first refl)
one_blank _ r _ s (line bs _ all next) (space c _ k) e = let first : c ≡ 45 = cc in absurd (space_not c 45 k first refl)
one_blank _ r _ s (line bs _ all next) (line cs _ all' next') e = (same_run is_in_line bs r cs s (ap (drop 2) e) all next all' next').1
one_blank _ r _ s (line bs _ all next) (comment cs _ inside) e = absurd (dash_slash (45 ∷ bs ++ r) (42 ∷ cs ++ s) e)
one_blank _ r _ s (comment bs _ inside) (space c _ k) e = let first : c ≡ 47 = cc in absurd (space_not c 47 k first refl)
one_blank _ r _ s (comment bs _ inside) (line cs _ all' next') e = absurd (dash_slash (45 ∷ cs ++ s) (42 ∷ bs ++ r) (sym e))
one_blank _ r _ s (comment bs _ inside) (comment cs _ inside') e =
    let both : Some r ≡ Some s = sym (closing-comment bs inside 0 r) ∙ (ap (λ (l : List ℕ). closing 1 (drop 2 l)) e ∙ closing-comment cs inside' 0 s) in
    cc

-- all white space and comments at a place end at one place
one_gap : (t r u s : List ℕ) → PassesBlanks t r → HasNoBlank r → PassesBlanks u s → HasNoBlank s → t ≡ u → r ≡ s
one_gap _ _ _ _ (none t) end (none u) end' e = e
one_gap _ _ _ s (none t) end (more b a _ one rest) end' e = absurd (end b a e one)
one_gap _ r _ _ (more b a _ one rest) end (none u) end' e = absurd (end' b a (sym e) one)
one_gap _ r _ s (more b a _ one rest) end (more b' a' _ one' rest') end' e = one_gap a r a' s rest end rest' end' (one_blank b a b' a' one one' e)

same_place : (text : List ℕ) (a b : ℕ) → a ≤ length text → b ≤ length text → drop a text ≡ drop b text → a ≡ b
same_place text a b h k e = omega (arith, ap length e, length-drop a text, length-drop b text)

pub one_start : (text : List ℕ) (from a b : ℕ) → EndsBlanks text from a → EndsBlanks text from b → a ≡ b
one_start text from a b g g' = same_place text a b g.within g'.within (one_gap (drop from text) (drop a text) (drop from text) (drop b text) g.passes g.all g'.passes g'.all refl)

quote_rest : (a r : List ℕ) → IsToken Quoted a r → past_quote (drop 1 (a ++ r)) ≡ Some r
quote_rest a r t = ap (λ (l : List ℕ). past_quote (drop 1 (l ++ r))) t.0.1 ∙ (ap (λ (l : List ℕ). past_quote (drop 1 l)) (quote_front t.0.0 r) ∙ past_quote-spelled t.0.0 r t.1)

same_rest : (a r b s : List ℕ) → a ++ r ≡ b ++ s → r ≡ s → a ≡ b
same_rest a r b s e h = append_cancel_right a b r (e ∙ ap (λ (l : List ℕ). b ++ l) (sym h))

-- a token of one kind at a place ends at one place
one_end : (kind : Kind) (a r b s : List ℕ) → IsToken kind a r → IsToken kind b s → a ++ r ≡ b ++ s → a ≡ b
one_end Word a r b s t u e = (same_split a r b s e (sym (word_run a r t) ∙ (ap (prefix_len is_in_word) e ∙ word_run b s u))).0
one_end Number a r b s t u e = (same_split a r b s e (sym (number_run a r t) ∙ (ap (prefix_len is_ascii_digit) e ∙ number_run b s u))).0
one_end Quoted a r b s t u e =
    let both : Some r ≡ Some s = sym (quote_rest a r t) ∙ (ap (λ (l : List ℕ). past_quote (drop 1 l)) e ∙ quote_rest b s u) in
    same_rest a r b s e cc
one_end Symbol a r b s t u e = (same_split a r b s e (omega (arith, t.1 b s u.0 e, u.1 a r t.0 (sym e)))).0
one_end End a r b s t u e = t.0 ∙ sym u.0

one_kind : (k l : Kind) (a r b s : List ℕ) → IsToken k a r → IsToken l b s → a ++ r ≡ b ++ s → k ≡ l
one_kind k l a r b s t u e = sym (kind_is k a r t) ∙ (ap kind_of e ∙ kind_is l b s u)

abbrev token : Kind → ℕ → ℕ → Token
token k s e = record { kind = k; start = s; end = e }

same_token : (t u : Token) → t.kind ≡ u.kind → t.start ≡ u.start → t.end ≡ u.end → t ≡ u
same_token t u e f g = ap (λ (k : Kind). token k t.start t.end) e ∙ (ap (λ (s : ℕ). token u.kind s t.end) f ∙ ap (λ (x : ℕ). token u.kind u.start x) g)

slice_end : (text : List ℕ) (start end : ℕ) → start ≤ end → end ≤ length text → start + length (slice_range text start end) ≡ end
slice_end text start end h k = omega (arith, length-take (end - start) (drop start text), length-drop start text)

slice_rest : (text : List ℕ) (start end : ℕ) → start ≤ end → drop start text ≡ slice_range text start end ++ drop end text
slice_rest text start end h =
    let past : start + (end - start) ≡ end = omega arith in
    let cut = take-append-drop (end - start) (drop start text) in
    rw (drop-drop, past) at (sym cut)

-- one token is next from a place on
pub one_next : (text : List ℕ) (from : ℕ) (t u : Token) → IsNext text from t → IsNext text from u → t ≡ u
one_next text from t u n m =
    let start = one_start text from t.start u.start n.gap m.gap in
    let e : slice_range text t.start t.end ++ drop t.end text ≡ slice_range text u.start u.end ++ drop u.end text =
    sym (slice_rest text t.start t.end n.order) ∙ (ap (λ (k : ℕ). drop k text) start ∙ slice_rest text u.start u.end m.order) in
    let kind = one_kind t.kind u.kind (slice_range text t.start t.end) (drop t.end text) (slice_range text u.start u.end) (drop u.end text) n.form m.form e in
    let also : IsToken t.kind (slice_range text u.start u.end) (drop u.end text) = rw kind m.form in
    let bytes = one_end t.kind (slice_range text t.start t.end) (drop t.end text) (slice_range text u.start u.end) (drop u.end text) n.form also e in
    let end : t.end ≡ u.end = omega (arith, slice_end text t.start t.end n.order n.within, slice_end text u.start u.end m.order m.within, ap length bytes, start) in
    same_token t u kind start end

-- where a token is next, none is missing
pub not_stuck : (text : List ℕ) (from : ℕ) (t : Token) (at : ℕ) → IsNext text from t → IsStuck text from at → ⊥
not_stuck text from t at n s =
    let start = one_start text from t.start at n.gap s.gap in
    s.stuck t.kind (slice_range text t.start t.end) (drop t.end text) (ap (λ (k : ℕ). drop k text) (sym start) ∙ slice_rest text t.start t.end n.order) n.form

words-step : (text : List ℕ) (t : Token) (ts us : List Token) (b : Bool) → is_last text t ≡ b → MatchBool b (ts ≡ []) (AreWords text t.end ts) → MatchBool b (us ≡ []) (AreWords text t.end us)
    → (AreWords text t.end ts → AreWords text t.end us → ts ≡ us) → t ∷ ts ≡ t ∷ us
words-step text t ts us true h w v same = ap (λ (l : List Token). t ∷ l) (w ∙ sym v)
words-step text t ts us false h w v same = ap (λ (l : List Token). t ∷ l) (same w v)

-- a statement has one list of words
pub one_list : (text : List ℕ) (from : ℕ) (ts us : List Token) → AreWords text from ts → AreWords text from us → ts ≡ us
one_list text from [] us w v = absurd w
one_list text from (t ∷ ts) [] w v = absurd v
one_list text from (t ∷ ts) (u ∷ us) (n, w) (m, v) =
    let same = one_next text from t u n m in
    let v' : MatchBool (is_last text t) (us ≡ []) (AreWords text t.end us) = rw same v in
    words-step text t ts us (is_last text t) refl w v' (one_list text t.end ts us) ∙ ap (λ (x : Token). x ∷ us) same

-- a statement that has words has no fault
pub no_fault : (text : List ℕ) (from : ℕ) (ts before : List Token) (at : ℕ) → AreWords text from ts → StopsAt text from before at → ⊥
no_fault text from [] before at w s = w
no_fault text from (t ∷ ts) [] at (n, w) s = not_stuck text from t at n s
no_fault text from (t ∷ ts) (u ∷ before) at (n, w) (m, h, s) =
    let same = one_next text from t u n m in
    let goes : is_last text t ≡ false = rw same h in
    let stops : StopsAt text t.end before at = rw same s in
    no_fault text t.end ts before at (rw goes at w) stops

-- a statement has one fault
pub one_fault : (text : List ℕ) (from : ℕ) (ts us : List Token) (a b : ℕ) → StopsAt text from ts a → StopsAt text from us b → a ≡ b
one_fault text from [] [] a b s q = one_start text from a b s.gap q.gap
one_fault text from [] (u ∷ us) a b s (m, k, q) = absurd (not_stuck text from u a m s)
one_fault text from (t ∷ ts) [] a b (n, h, s) q = absurd (not_stuck text from t b n q)
one_fault text from (t ∷ ts) (u ∷ us) a b (n, h, s) (m, k, q) =
    let same = one_next text from t u n m in
    let stops : StopsAt text t.end us b = rw same q in
    one_fault text t.end ts us a b s stops
