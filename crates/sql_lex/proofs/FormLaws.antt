-- What stands at the front of a text, by kinds.
use Rattle.std.proofs.Common.{◌≡◌, ◌≤◌, ◌<◌, ℕ, Bool, true, false, Some, None, List, [], ◌∷◌, ◌++◌, length, get_or, take, drop, refl, ap, sym, ◌∙◌, arith, append_assoc, one-add, drop-cons, drop_of_length-le}
use Rattle.std.specs.Char.{is_ascii_digit}
use Rattle.std.specs.List.{list_all, prefix_len}
use Rattle.std.proofs.lemmas.Bool.{and_from, or_parts, or_from, ne_eqb}
use Rattle.std.proofs.lemmas.List.{take-append-drop, append_cancel_right, length-append}
use Rattle.std.proofs.lemmas.List.Sums.{prefix_len-le-length}
use Rattle.sql_lex.specs.declared.tokens.Kind.{Kind}
use Rattle.sql_lex.specs.declared.tokens.Kind.TheVariants.{Word, Number, Quoted, Symbol, End}
use Rattle.sql_lex.specs.Letters.{begins_word, is_in_word, goes_on_number, IsNotNext}
use Rattle.sql_lex.specs.Forms.{IsToken, IsNumber, HasNoToken, quoted, doubled}
use Rattle.sql_lex.specs.work.Cuts.{CutsToken, IsLongestAt, HasNoSymbol}
use Rattle.sql_lex.proofs.RunLaws.{run_passes, run_stops, run_is}
use Rattle.sql_lex.proofs.KindLaws.{kind_of, kind_is, begins_is_in, digit_apart}
use Rattle.sql_lex.proofs.QuoteLaws.{past_quote, past_quote-spelled, past_quote-sound}

-- a word is all the bytes of words at the front
pub word_run : (bytes rest : List ℕ) → IsToken Word bytes rest → prefix_len is_in_word (bytes ++ rest) ≡ length bytes
word_run [] rest h = absurd h.0
word_run (b ∷ bytes) rest h = run_is is_in_word (b ∷ bytes) rest (rw (begins_is_in b h.0.0) h.0.1) h.1

digits_next : (rest : List ℕ) → IsNotNext goes_on_number rest → IsNotNext is_ascii_digit rest
digits_next [] h = tt
digits_next (b ∷ rest) h = (or_parts (is_ascii_digit b) (begins_word b) h).0

pub digits_all : (bytes : List ℕ) → IsNumber bytes → list_all is_ascii_digit bytes ≡ true
digits_all [] h = refl
digits_all (b ∷ bytes) h = h

-- a number is all the digits at the front
pub number_run : (bytes rest : List ℕ) → IsToken Number bytes rest → prefix_len is_ascii_digit (bytes ++ rest) ≡ length bytes
number_run bytes rest h = run_is is_ascii_digit bytes rest (digits_all bytes h.0) (digits_next rest h.1)

-- only a token of this kind can stand here
pub one_kind : (text : List ℕ) (kind other : Kind) (bytes rest : List ℕ) → kind_of text ≡ kind → text ≡ bytes ++ rest → IsToken other bytes rest → IsToken kind bytes rest
one_kind text kind other bytes rest h e t =
    let same : other ≡ kind = sym (kind_is other bytes rest t) ∙ (ap kind_of (sym e) ∙ h) in
    rw same at t

pub word_cut : (text : List ℕ) → 0 < length text → begins_word (get_or text 0 0) ≡ true → CutsToken text Word (prefix_len is_in_word text)
word_cut [] some h = absurd (omega arith)
word_cut (b ∷ text) some h = rw (begins_is_in b h, one-add) (record {
  within = omega (arith, prefix_len-le-length is_in_word text);
  form = ((h, run_passes is_in_word text), run_stops is_in_word text);
})

pub digit_kind : (text : List ℕ) → 0 < length text → is_ascii_digit (get_or text 0 0) ≡ true → kind_of text ≡ Number
digit_kind [] some h = absurd (omega arith)
digit_kind (b ∷ text) some h = rw (digit_apart b h, h) refl

not_both : (rest : List ℕ) → IsNotNext is_ascii_digit rest → IsNotNext begins_word rest → IsNotNext goes_on_number rest
not_both [] h k = tt
not_both (b ∷ rest) h k = or_from (is_ascii_digit b) (begins_word b) h k

pub number_cut : (text : List ℕ) → 0 < length text → is_ascii_digit (get_or text 0 0) ≡ true → IsNotNext begins_word (drop (prefix_len is_ascii_digit text) text) → CutsToken text Number (prefix_len is_ascii_digit text)
number_cut [] some h next = absurd (omega arith)
number_cut (b ∷ text) some h next =
    let ends = rw (h, one-add) at next in
    rw (h, one-add) (record {
      within = omega (arith, prefix_len-le-length is_ascii_digit text);
      form = (and_from (is_ascii_digit b) (list_all is_ascii_digit (take (prefix_len is_ascii_digit text) text)) h (run_passes is_ascii_digit text), not_both (drop (prefix_len is_ascii_digit text) text) (run_stops is_ascii_digit text) ends);
    })

at_rest : (bytes rest : List ℕ) → get_or (bytes ++ rest) (length bytes) 0 ≡ get_or rest 0 0
at_rest [] rest = refl
at_rest (b ∷ bytes) rest = at_rest bytes rest

not_into_word : (rest : List ℕ) → 0 < length rest → IsNotNext goes_on_number rest → begins_word (get_or rest 0 0) ≡ true → ⊥
not_into_word [] some h k = omega arith
not_into_word (b ∷ rest) some h k = let other = (or_parts (is_ascii_digit b) (begins_word b) h).1 in cc

spoiled : (text bytes rest : List ℕ) → text ≡ bytes ++ rest → length bytes < length text → IsNotNext goes_on_number rest → begins_word (get_or text (length bytes) 0) ≡ true → ⊥
spoiled text bytes rest e more h next =
    not_into_word rest (omega (arith, ap length e, length-append bytes rest)) h (rw (e, at_rest bytes rest) at next)

pub no_number : (text : List ℕ) → 0 < length text → is_ascii_digit (get_or text 0 0) ≡ true → prefix_len is_ascii_digit text < length text → begins_word (get_or text (prefix_len is_ascii_digit text) 0) ≡ true → HasNoToken text
no_number text some h more next kind bytes rest e t =
    let number = one_kind text Number kind bytes rest (digit_kind text some h) e t in
    let len : prefix_len is_ascii_digit text ≡ length bytes = ap (prefix_len is_ascii_digit) e ∙ number_run bytes rest number in
    spoiled text bytes rest e (omega arith) number.1 (rw len at next)

pub quote_kind : (text : List ℕ) → 0 < length text → get_or text 0 0 ≡ 39 → kind_of text ≡ Quoted
quote_kind [] some h = absurd (omega arith)
quote_kind (b ∷ text) some h = rw h refl

pub quote_front : (v rest : List ℕ) → quoted v ++ rest ≡ 39 ∷ (doubled v ++ 39 ∷ rest)
quote_front v rest = ap (λ (l : List ℕ). 39 ∷ l) (append_assoc (doubled v) (39 ∷ []) rest)

first_and_rest : (text : List ℕ) → 0 < length text → get_or text 0 0 ≡ 39 → text ≡ 39 ∷ drop 1 text
first_and_rest [] some h = absurd (omega arith)
first_and_rest (b ∷ text) some h = ap (λ (x : ℕ). x ∷ text) h

pub quote_cut : (text : List ℕ) (at : ℕ) → at ≤ length text → 0 < length text → get_or text 0 0 ≡ 39 → past_quote (drop 1 text) ≡ Some (drop at text) → CutsToken text Quoted at
quote_cut text at within some h past =
    let r = past_quote-sound (drop 1 text) (drop at text) past in
    let whole : text ≡ quoted r.value ++ drop at text = first_and_rest text some h ∙ (ap (λ (l : List ℕ). 39 ∷ l) r.cut ∙ sym (quote_front r.value (drop at text))) in
    record { within = within; form = ((r.value, append_cancel_right (take at text) (quoted r.value) (drop at text) (take-append-drop at text ∙ whole)), r.next) }

pub no_quoted : (text : List ℕ) → 0 < length text → get_or text 0 0 ≡ 39 → past_quote (drop 1 text) ≡ None → HasNoToken text
no_quoted text some h past kind bytes rest e t =
    let one = one_kind text Quoted kind bytes rest (quote_kind text some h) e t in
    let whole : text ≡ 39 ∷ (doubled one.0.0 ++ 39 ∷ rest) = e ∙ (ap (λ (l : List ℕ). l ++ rest) one.0.1 ∙ quote_front one.0.0 rest) in
    let closed : past_quote (drop 1 text) ≡ Some rest = ap (λ (l : List ℕ). past_quote (drop 1 l)) whole ∙ past_quote-spelled one.0.0 rest one.1 in
    cc

pub next_not : (test : ℕ → Bool) (text : List ℕ) (n : ℕ) → n < length text → test (get_or text n 0) ≡ false → IsNotNext test (drop n text)
next_not test text n more h = rw (drop-cons text n 0 more) h

pub end_not : (test : ℕ → Bool) (text : List ℕ) (n : ℕ) → length text ≤ n → IsNotNext test (drop n text)
end_not test text n past = let end : drop n text ≡ [] = drop_of_length-le text past in rw end tt

pub symbol_cut : (text : List ℕ) (n : ℕ) → IsLongestAt text n → CutsToken text Symbol n
symbol_cut text n r = record { within = r.within; form = (r.one, r.longest) }

other_kind : (text : List ℕ) → 0 < length text → begins_word (get_or text 0 0) ≡ false → is_ascii_digit (get_or text 0 0) ≡ false → (get_or text 0 0 ≡ 39 → ⊥) → kind_of text ≡ Symbol
other_kind [] some h k q = absurd (omega arith)
other_kind (b ∷ text) some h k q = rw (h, k, ne_eqb b 39 q) refl

pub no_other : (text : List ℕ) → 0 < length text → begins_word (get_or text 0 0) ≡ false → is_ascii_digit (get_or text 0 0) ≡ false → (get_or text 0 0 ≡ 39 → ⊥) → HasNoSymbol text → HasNoToken text
no_other text some h k q none kind bytes rest e t = none bytes rest e (one_kind text Symbol kind bytes rest (other_kind text some h k q) e t).0

pub end_cut : (text : List ℕ) → length text ≡ 0 → CutsToken text End 0
end_cut [] h = record { within = omega arith; form = (refl, refl) }
end_cut (b ∷ text) h = absurd (omega arith)
