-- The three causes for which no token stands at the front of a text, and the comment that is not closed.
use Rattle.std.proofs.Common.{◌≡◌, ◌<◌, ℕ, Bool, true, false, List, [], ◌∷◌, ◌++◌, length, get_or, take, drop, refl, ap, sym, ◌∙◌, arith, one-add, inl, inr}
use Rattle.std.specs.Prelude.{Contains}
use Rattle.std.specs.Char.{is_ascii_digit}
use Rattle.std.specs.List.{list_all, prefix_len}
use Rattle.std.proofs.lemmas.Bool.{and_from, and_parts, or_parts, both_ways, eqb-true, eqb-false}
use Rattle.std.proofs.lemmas.List.{take-append-drop}
use Rattle.sql_lex.specs.declared.tokens.Kind.{Kind}
use Rattle.sql_lex.specs.declared.tokens.Kind.TheVariants.{Word, Number, Quoted, Symbol, End}
use Rattle.sql_lex.specs.Letters.{begins_word, is_in_word, is_quote, goes_on_number, IsNotNext}
use Rattle.sql_lex.specs.Blanks.{HasNoBlank, comment}
use Rattle.sql_lex.specs.Forms.{IsNumber, HasNoToken, symbols, quoted}
use Rattle.sql_lex.specs.work.Cuts.{CutsToken, IsNotClosed, longest_of}
use Rattle.sql_lex.specs.work.Stops.{IsOpenQuote, IsSpoiltNumber, IsNoTokenHere}
use Rattle.sql_lex.proofs.RunLaws.{run_is, run_passes, same_split}
use Rattle.sql_lex.proofs.KindLaws.{kind_of, digit_apart, symbol_kind}
use Rattle.sql_lex.proofs.SymbolLaws.{greatest, longest_at, starts-from}
use Rattle.sql_lex.proofs.BlankLaws.{not_blank}
use Rattle.sql_lex.proofs.FormLaws.{word_cut, number_cut, symbol_cut, no_other, one_kind, quote_kind, number_run, digits_all}

-- a token that is cut stands there
stands : (text : List ℕ) (kind : Kind) (n : ℕ) → CutsToken text kind n → HasNoToken text → ⊥
stands text kind n cut h = h kind (take n text) (drop n text) (sym (take-append-drop n text)) cut.form

-- where a symbol stands, one of them is the longest
some_symbol : (text s rest : List ℕ) → text ≡ s ++ rest → Contains symbols s → HasNoToken text → ⊥
some_symbol text [] rest e one h = let kind = symbol_kind [] one in cc
some_symbol text (b ∷ s) rest e one h =
    let above = (greatest symbols text).above (b ∷ s) one (starts-from text (b ∷ s) rest e) in
    stands text Symbol (longest_of symbols text) (symbol_cut text (longest_of symbols text) (longest_at text (longest_of symbols text) refl (λ none. omega (arith, above)))) h

some_digits : (text : List ℕ) → 0 < length text → is_ascii_digit (get_or text 0 0) ≡ true → IsNumber (take (prefix_len is_ascii_digit text) text)
some_digits [] some h = absurd (omega arith)
some_digits (b ∷ text) some h = rw (h, one-add) (and_from (is_ascii_digit b) (list_all is_ascii_digit (take (prefix_len is_ascii_digit text) text)) h (run_passes is_ascii_digit text))

letter-step : (text after : List ℕ) (c : ℕ) (w : Bool) → begins_word c ≡ w → 0 < length text → is_ascii_digit (get_or text 0 0) ≡ true → drop (prefix_len is_ascii_digit text) text ≡ c ∷ after → HasNoToken text → IsSpoiltNumber text
letter-step text after c true is-w some h e none = record {
  digits = take (prefix_len is_ascii_digit text) text;
  letter = c;
  rest = after;
  cut = sym (take-append-drop (prefix_len is_ascii_digit text) text) ∙ ap (λ (l : List ℕ). take (prefix_len is_ascii_digit text) text ++ l) e;
  number = some_digits text some h;
  next = is-w;
}
letter-step text after c false is-w some h e none = absurd (stands text Number (prefix_len is_ascii_digit text) (number_cut text some h (rw e is-w)) none)

number-step : (text after : List ℕ) → 0 < length text → is_ascii_digit (get_or text 0 0) ≡ true → drop (prefix_len is_ascii_digit text) text ≡ after → HasNoToken text → IsSpoiltNumber text
number-step text [] some h e none = absurd (stands text Number (prefix_len is_ascii_digit text) (number_cut text some h (rw e tt)) none)
number-step text (c ∷ after) some h e none = letter-step text after c (begins_word c) refl some h e none

pub why : (text : List ℕ) → HasNoToken text → IsNoTokenHere text
why [] h = absurd (h End [] [] refl (refl, refl))
why (b ∷ text) h = why-step (begins_word b) (is_ascii_digit b) (is_quote b) refl refl refl
  where
    why-step : (w d q : Bool) → begins_word b ≡ w → is_ascii_digit b ≡ d → is_quote b ≡ q → IsNoTokenHere (b ∷ text)
    why-step true d q is-w is-d is-q = absurd (stands (b ∷ text) Word (prefix_len is_in_word (b ∷ text)) (word_cut (b ∷ text) (omega arith) is-w) h)
    why-step false true q is-w is-d is-q = inr (inr (number-step (b ∷ text) (drop (prefix_len is_ascii_digit (b ∷ text)) (b ∷ text)) (omega arith) is-d refl h))
    why-step false false true is-w is-d is-q = inr (inl (record { mark = eqb-true b 39 is-q; unclosed = λ value rest e next. h Quoted (quoted value) rest e ((value, refl), next) }))
    why-step false false false is-w is-d is-q = inl (record {
      some = omega arith;
      no_word = is-w;
      no_digit = is-d;
      no_quote = eqb-false b 39 is-q;
      no_symbol = λ s rest e one. some_symbol (b ∷ text) s rest e one h;
    })

letter_apart : (b : ℕ) (d : Bool) → is_ascii_digit b ≡ d → begins_word b ≡ true → is_ascii_digit b ≡ false
letter_apart b true is-d h = let other = digit_apart b is-d in cc
letter_apart b false is-d h = is-d

first_digit : (digits after : List ℕ) → IsNumber digits → kind_of (digits ++ after) ≡ Number
first_digit [] after h = absurd h
first_digit (d ∷ digits) after h =
    let digit : is_ascii_digit d ≡ true = (and_parts (is_ascii_digit d) (list_all is_ascii_digit digits) h).0 in
    rw (digit_apart d digit, digit) refl

spoilt : (text : List ℕ) → IsSpoiltNumber text → HasNoToken text
spoilt text r kind bytes rest e t =
    let number = one_kind text Number kind bytes rest (ap kind_of r.cut ∙ first_digit r.digits (r.letter ∷ r.rest) r.number) e t in
    let apart = letter_apart r.letter (is_ascii_digit r.letter) refl r.next in
    let whole : prefix_len is_ascii_digit text ≡ length r.digits = ap (prefix_len is_ascii_digit) r.cut ∙ run_is is_ascii_digit r.digits (r.letter ∷ r.rest) (digits_all r.digits r.number) apart in
    let len : prefix_len is_ascii_digit text ≡ length bytes = ap (prefix_len is_ascii_digit) e ∙ number_run bytes rest number in
    let after = (same_split bytes rest r.digits (r.letter ∷ r.rest) (sym e ∙ r.cut) (sym len ∙ whole)).1 in
    let next : IsNotNext goes_on_number (r.letter ∷ r.rest) = rw after at number.1 in
    let other = (or_parts (is_ascii_digit r.letter) (begins_word r.letter) next).1 in
    both_ways (begins_word r.letter) other r.next

some_mark : (text : List ℕ) → get_or text 0 0 ≡ 39 → 0 < length text
some_mark [] h = absurd (omega arith)
some_mark (b ∷ text) h = omega arith

open_quote : (text : List ℕ) → IsOpenQuote text → HasNoToken text
open_quote text r kind bytes rest e t =
    let one = one_kind text Quoted kind bytes rest (quote_kind text (some_mark text r.mark) r.mark) e t in
    r.unclosed one.0.0 rest (e ∙ ap (λ (l : List ℕ). l ++ rest) one.0.1) one.1

pub because : (text : List ℕ) → IsNoTokenHere text → HasNoToken text
because text (inl r) = no_other text r.some r.no_word r.no_digit r.no_quote r.no_symbol
because text (inr (inl r)) = open_quote text r
because text (inr (inr r)) = spoilt text r

pub not_closed_stops : (rest : List ℕ) → IsNotClosed rest → HasNoBlank (47 ∷ 42 ∷ rest)
not_closed_stops rest h = not_blank (47 ∷ 42 ∷ rest) refl refl (λ _. h)

pub stops_not_closed : (rest : List ℕ) → HasNoBlank (47 ∷ 42 ∷ rest) → IsNotClosed rest
stops_not_closed rest h bytes after e inside = h (47 ∷ 42 ∷ bytes) after (ap (λ (l : List ℕ). 47 ∷ 42 ∷ l) e) (comment bytes after inside)
