-- Where a quoted text ends.
use Rattle.std.proofs.Common.{◌≡◌, ◌≤◌, ◌<◌, ℕ, suc, ◌+◌, ◌&&◌, Bool, true, false, nat_eq, Option, Some, None, List, [], ◌∷◌, ◌++◌, length, get_or, drop, refl, ap, sym, ◌∙◌, arith, add-one, drop-cons, drop_of_length-le}
use Rattle.std.proofs.lemmas.List.{drop-drop}
use Rattle.std.specs.Prelude.{if◌then◌else◌}
use Rattle.std.specs.List.{starts_with}
use Rattle.std.proofs.lemmas.Bool.{and_parts, eqb-true, ne_eqb}
use Rattle.std.proofs.lemmas.Bool.Decides.{nat_tests}
use Rattle.sql_lex.specs.Letters.{is_quote, IsNotNext}
use Rattle.sql_lex.specs.Forms.{doubled}

-- two quote marks stand at the front
abbrev pub pairs : List ℕ → Bool
pairs bs = starts_with nat_eq bs (39 ∷ 39 ∷ [])

-- what follows the quote mark that closes the text
abbrev pub past_quote : List ℕ → Option (List ℕ)
past_quote [] = None
past_quote (b ∷ []) = if is_quote b then Some [] else None
past_quote (b ∷ c ∷ bs) = if is_quote b then (if is_quote c then past_quote bs else Some (c ∷ bs)) else past_quote (c ∷ bs)

pairs_is : (b c : ℕ) (bs : List ℕ) → pairs (b ∷ c ∷ bs) ≡ true → (b ≡ 39) × (c ≡ 39)
pairs_is b c bs h =
    let first = and_parts (nat_eq 39 b) (nat_eq 39 c && true) h in
    let second = and_parts (nat_eq 39 c) true first.1 in
    (sym (eqb-true 39 b first.0), sym (eqb-true 39 c second.0))

not_second : (b c : ℕ) (bs : List ℕ) → b ≡ 39 → pairs (b ∷ c ∷ bs) ≡ false → is_quote c ≡ false
not_second b c bs h other = grind (arith, nat_tests)

pub past_quote-pair : (bs : List ℕ) → pairs bs ≡ true → past_quote bs ≡ past_quote (drop 2 bs)
past_quote-pair [] h = cc
past_quote-pair (b ∷ []) h = let second = (and_parts (nat_eq 39 b) false h).1 in cc
past_quote-pair (b ∷ c ∷ bs) h = let marks = pairs_is b c bs h in rw (marks.0, marks.1) refl

pub past_quote-close : (bs : List ℕ) → pairs bs ≡ false → 0 < length bs → get_or bs 0 0 ≡ 39 → past_quote bs ≡ Some (drop 1 bs)
past_quote-close [] other some h = absurd (omega arith)
past_quote-close (b ∷ []) other some h = rw h refl
past_quote-close (b ∷ c ∷ bs) other some h = rw (h, not_second b c bs h other) refl

pub past_quote-plain : (b : ℕ) (bs : List ℕ) → is_quote b ≡ false → past_quote (b ∷ bs) ≡ past_quote bs
past_quote-plain b [] h = rw h refl
past_quote-plain b (c ∷ bs) h = rw h refl

ended : (rest : List ℕ) → IsNotNext is_quote rest → past_quote (39 ∷ rest) ≡ Some rest
ended [] h = refl
ended (b ∷ rest) h = rw h refl

spelled-step : (b : ℕ) (v rest : List ℕ) (q : Bool) → is_quote b ≡ q → past_quote (doubled v ++ 39 ∷ rest) ≡ Some rest → past_quote ((if q then b ∷ b ∷ doubled v else b ∷ doubled v) ++ 39 ∷ rest) ≡ Some rest
spelled-step b v rest true is-q more = rw is-q more
spelled-step b v rest false is-q more = past_quote-plain b (doubled v ++ 39 ∷ rest) is-q ∙ more

-- a value's spelling is passed as a whole
pub past_quote-spelled : (v rest : List ℕ) → IsNotNext is_quote rest → past_quote (doubled v ++ 39 ∷ rest) ≡ Some rest
past_quote-spelled [] rest next = ended rest next
past_quote-spelled (b ∷ v) rest next = spelled-step b v rest (is_quote b) refl (past_quote-spelled v rest next)

-- a text that begins with a value's spelling and its quote mark
pub record Spelled (bs rest : List ℕ) : Type 0 where
  pub value : List ℕ
  pub cut : bs ≡ doubled value ++ 39 ∷ rest
  pub next : IsNotNext is_quote rest

after_plain : (b : ℕ) (bs rest : List ℕ) → is_quote b ≡ false → Spelled bs rest → Spelled (b ∷ bs) rest
after_plain b bs rest h r = record { value = b ∷ r.value; cut = rw h (ap (λ (l : List ℕ). b ∷ l) r.cut); next = r.next }

after_pair : (bs rest : List ℕ) → Spelled bs rest → Spelled (39 ∷ 39 ∷ bs) rest
after_pair bs rest r = record { value = 39 ∷ r.value; cut = ap (λ (l : List ℕ). 39 ∷ 39 ∷ l) r.cut; next = r.next }

last-step : (b : ℕ) (rest : List ℕ) (q : Bool) → is_quote b ≡ q → (if q then Some [] else None) ≡ Some rest → Spelled (b ∷ []) rest
last-step b rest true is-q e =
    let end : [] ≡ rest = cc in
    rw (eqb-true b 39 is-q, ← end) (record { value = []; cut = refl; next = tt })
last-step b rest false is-q e = cc

closed_here : (c : ℕ) (bs rest : List ℕ) → is_quote c ≡ false → Some (c ∷ bs) ≡ Some rest → Spelled (39 ∷ c ∷ bs) rest
closed_here c bs rest h e =
    let same : c ∷ bs ≡ rest = cc in
    rw (← same) (record { value = []; cut = refl; next = h })

pub past_quote-sound : (bs rest : List ℕ) → past_quote bs ≡ Some rest → Spelled bs rest
past_quote-sound [] rest h = cc
past_quote-sound (b ∷ []) rest h = last-step b rest (is_quote b) refl h
past_quote-sound (b ∷ c ∷ bs) rest h = sound-step (is_quote b) (is_quote c) refl refl h (past_quote-sound bs rest) (past_quote-sound (c ∷ bs) rest)
  where
    sound-step : (p q : Bool) → is_quote b ≡ p → is_quote c ≡ q → (if p then (if q then past_quote bs else Some (c ∷ bs)) else past_quote (c ∷ bs)) ≡ Some rest
        → (past_quote bs ≡ Some rest → Spelled bs rest) → (past_quote (c ∷ bs) ≡ Some rest → Spelled (c ∷ bs) rest) → Spelled (b ∷ c ∷ bs) rest
    sound-step false q is-p is-q e pair on = after_plain b (c ∷ bs) rest is-p (on e)
    sound-step true true is-p is-q e pair on = rw (eqb-true b 39 is-p, eqb-true c 39 is-q) (after_pair bs rest (pair e))
    sound-step true false is-p is-q e pair on = rw (eqb-true b 39 is-p) (closed_here c bs rest is-q e)

pub passes_pair : (text : List ℕ) (at : ℕ) → pairs (drop at text) ≡ true → past_quote (drop (at + 2) text) ≡ past_quote (drop at text)
passes_pair text at h = ap past_quote (sym (drop-drop 2 at text)) ∙ sym (past_quote-pair (drop at text) h)

pub passes_close : (text : List ℕ) (at : ℕ) → at < length text → pairs (drop at text) ≡ false → get_or text at 0 ≡ 39 → past_quote (drop at text) ≡ Some (drop (at + 1) text)
passes_close text at more other h =
    let here = drop-cons text at 0 more in
    let some : 0 < length (drop at text) = rw here (omega arith) in
    past_quote-close (drop at text) other some (rw here h) ∙ ap Some (drop-drop 1 at text)

pub passes_plain : (text : List ℕ) (at : ℕ) → at < length text → (get_or text at 0 ≡ 39 → ⊥) → past_quote (drop (at + 1) text) ≡ past_quote (drop at text)
passes_plain text at more other =
    let here = drop-cons text at 0 more in
    rw (here, add-one) (sym (past_quote-plain (get_or text at 0) (drop (suc at) text) (ne_eqb (get_or text at 0) 39 other)))

pub past_end : (text : List ℕ) (at : ℕ) → length text ≤ at → past_quote (drop at text) ≡ None
past_end text at past = let end : drop at text ≡ [] = drop_of_length-le text past in rw end refl
