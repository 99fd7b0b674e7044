-- A text's word is what stands amid its white space, and what it spells.
use Rattle.std.proofs.Common.{◌≡◌, ℕ, zero, suc, ◌<◌, ◌≤◌, ◌-◌, ◌+◌, Bool, true, false, not, cond, List, [], ◌∷◌, ◌++◌, ◌&&◌, ◌||◌, ◌==◌, length, take, drop, get_or, map, reverse, refl, arith, ◌↔◌, sym, ap, ap₂, subst, ◌∙◌, Some, None, length-append, length-drop}
use Rattle.std.specs.Prelude.{ℤ, pos, neg_ℤ, nat_le, nat_lt, codes}
use Rattle.std.specs.Char.{is_ascii_whitespace, is_ascii_digit, to_ascii_lowercase}
use Rattle.std.specs.List.{prefix_len, suffix_len, list_all}
use Rattle.std.specs.Str.{bytes_eq}
use Rattle.std.specs.Str.Parse.{digits_value}
use Rattle.std.proofs.lemmas.Bool.{and_parts, leb-true, not-true}
use Rattle.std.proofs.lemmas.Bool.Decides.{nat_tests, Decides-eqb, Decides-ltb}
use Rattle.std.proofs.lemmas.List.{length-map, take-append-drop, get_or-take, get_or-drop, get_or-reverse, get_or_append_left, get_or-append_right}
use Rattle.std.proofs.lemmas.List.Folds.{list_all-map, length-prefix_len}
use Rattle.std.proofs.lemmas.List.Sums.{AllPass-from_list_all, list_all-from_AllPass, prefix_len_passes, suffix_len-le-length, prefix_len_is, suffix_len_is}
use Rattle.std.proofs.lemmas.Slice.Eq.{bytes_eq-Decides}
use Rattle.std.proofs.Math.Seq.{take-append_seam, drop-append_seam}
use Rattle.pg_value.specs.Fields.{from_word, word_of, is_numeral, number_of, is_start, is_true_word, is_false_word, flag_of}
use Rattle.pg_value.specs.work.Fields.{IsAmidBlanks, SpellsNumber, plain, plus, minus}

-- no white space in a word
abbrev is_solid : List ℕ → Bool
is_solid word = list_all (λ c. not (is_ascii_whitespace c)) word

pub all_weaker : (p q : ℕ → Bool) → ((c : ℕ) → p c ≡ true → q c ≡ true) → (xs : List ℕ) → list_all p xs ≡ true → list_all q xs ≡ true
all_weaker p q h [] all = refl
all_weaker p q h (c ∷ cs) all = let parts = and_parts (p c) (list_all p cs) all in ap₂ ◌&&◌ (h c parts.0) (all_weaker p q h cs parts.1)

all_taken : (p : ℕ → Bool) (n : ℕ) (xs : List ℕ) → list_all p xs ≡ true → list_all p (take n xs) ≡ true
all_taken p zero xs all = refl
all_taken p (suc n) [] all = refl
all_taken p (suc n) (c ∷ cs) all = let parts = and_parts (p c) (list_all p cs) all in ap₂ ◌&&◌ parts.0 (all_taken p n cs parts.1)

solid_at : (word : List ℕ) → is_solid word ≡ true → (k : ℕ) → k < length word → is_ascii_whitespace (get_or word k 0) ≡ false
solid_at word solid k lt = not-true _ (AllPass-from_list_all (λ c. not (is_ascii_whitespace c)) word solid k 0 lt)

blank_at : (xs : List ℕ) → list_all is_ascii_whitespace xs ≡ true → (k : ℕ) → k < length xs → is_ascii_whitespace (get_or xs k 0) ≡ true
blank_at xs blank k lt = AllPass-from_list_all is_ascii_whitespace xs blank k 0 lt

-- what `word_of` leaves out is white space
front_blank : (xs : List ℕ) → list_all is_ascii_whitespace (take (prefix_len is_ascii_whitespace xs) xs) ≡ true
front_blank xs =
    list_all-from_AllPass is_ascii_whitespace (take (prefix_len is_ascii_whitespace xs) xs)
    (λ k d lt.
    let within : k < prefix_len is_ascii_whitespace xs = omega (arith, length-prefix_len is_ascii_whitespace xs) in
    rw (get_or-take (prefix_len is_ascii_whitespace xs) xs k d within) (prefix_len_passes is_ascii_whitespace xs k d within))

back_at : (xs : List ℕ) (k d : ℕ) → k < suffix_len is_ascii_whitespace xs → is_ascii_whitespace (get_or (drop (length xs - suffix_len is_ascii_whitespace xs) xs) k d) ≡ true
back_at xs k d lt =
    let small = suffix_len-le-length is_ascii_whitespace xs in
    let place : length xs - suffix_len is_ascii_whitespace xs + k ≡ length xs - 1 - (suffix_len is_ascii_whitespace xs - 1 - k) = omega arith in
    ap is_ascii_whitespace
    (get_or-drop (length xs - suffix_len is_ascii_whitespace xs) xs k d
    ∙ ap (λ (i : ℕ). get_or xs i d) place
    ∙ sym (get_or-reverse xs (suffix_len is_ascii_whitespace xs - 1 - k) d (omega arith)))
    ∙ prefix_len_passes is_ascii_whitespace (reverse xs) (suffix_len is_ascii_whitespace xs - 1 - k) d (omega arith)

back_blank : (xs : List ℕ) → list_all is_ascii_whitespace (drop (length xs - suffix_len is_ascii_whitespace xs) xs) ≡ true
back_blank xs =
    list_all-from_AllPass is_ascii_whitespace (drop (length xs - suffix_len is_ascii_whitespace xs) xs)
    (λ k d lt. back_at xs k d (omega (arith, length-drop (length xs - suffix_len is_ascii_whitespace xs) xs, suffix_len-le-length is_ascii_whitespace xs)))

pub amid_word : (text : List ℕ) → IsAmidBlanks text (word_of text)
unfolding word_of
amid_word text = record {
  before = take (prefix_len is_ascii_whitespace text) text;
  after = drop (length (from_word text) - suffix_len is_ascii_whitespace (from_word text)) (from_word text);
  parts = sym (ap (λ (t : List ℕ). take (prefix_len is_ascii_whitespace text) text ++ t) (take-append-drop _ (from_word text)) ∙ take-append-drop _ text);
  blank_before = front_blank text;
  blank_after = back_blank (from_word text);
}

-- a word without white space is the only one amid blanks
module _ (before word after : List ℕ) (blank_before : list_all is_ascii_whitespace before ≡ true) (blank_after : list_all is_ascii_whitespace after ≡ true) (some : 0 < length word) (solid : is_solid word ≡ true) where
  first_solid : is_ascii_whitespace (get_or (before ++ (word ++ after)) (length before) 0) ≡ false
  first_solid =
      let none : length before - length before ≡ 0 = omega arith in
      ap is_ascii_whitespace
      (get_or-append_right before (word ++ after) (length before) (length before) 0 refl (omega arith)
      ∙ ap (λ (i : ℕ). get_or (word ++ after) i 0) none
      ∙ get_or_append_left word after 0 0 some)
      ∙ solid_at word solid 0 some

  front_len : prefix_len is_ascii_whitespace (before ++ (word ++ after)) ≡ length before
  front_len =
      prefix_len_is is_ascii_whitespace (before ++ (word ++ after)) (length before) 0 (omega (arith, length-append before (word ++ after)))
      (λ k lt. rw (get_or_append_left before (word ++ after) 0 k lt) (blank_at before blank_before k lt))
      (λ lt. first_solid)

  back_len : suffix_len is_ascii_whitespace (word ++ after) ≡ length (word ++ after) - length word
  back_len =
      suffix_len_is is_ascii_whitespace (word ++ after) (length word) 0 (omega (arith, length-append word after))
      (λ k ge lt. rw (get_or-append_right word after (length word) k 0 refl ge) (blank_at after blank_after (k - length word) (omega (arith, length-append word after))))
      (λ lt.
      let within : length word - 1 < length word = omega arith in
      rw (get_or_append_left word after 0 (length word - 1) within) (solid_at word solid (length word - 1) within))

  word_amid : word_of (before ++ (word ++ after)) ≡ word
  unfolding word_of
  word_amid =
      ap (λ (t : List ℕ). take (length t - suffix_len is_ascii_whitespace t) t) (ap (λ (n : ℕ). drop n (before ++ (word ++ after))) front_len ∙ drop-append_seam before (word ++ after))
      ∙ ap (λ (n : ℕ). take n (word ++ after)) (omega (arith, back_len, length-append word after))
      ∙ take-append_seam word after

pub word_is : (text word : List ℕ) → IsAmidBlanks text word → 0 < length word → is_solid word ≡ true → word_of text ≡ word
word_is text word amid some solid = ap word_of amid.parts ∙ word_amid amid.before word amid.after amid.blank_before amid.blank_after some solid

some_from : {A : Type 0} (b : Bool) (x n : A) → cond b (Some x) None ≡ Some n → (b ≡ true) × (x ≡ n)
some_from true x n h = (refl, cc)
some_from false x n h = cc

-- numbers
read_signed : (c : ℕ) (cs : List ℕ) (n : ℤ) (m p : Bool) → (c == 45) ≡ m → (c == 43) ≡ p
    → (let ds = cond m (drop 1 (c ∷ cs)) (drop (cond p 1 0) (c ∷ cs)) in cond (is_numeral ds) (Some (cond m (neg_ℤ (pos (digits_value 10 ds))) (pos (digits_value 10 ds)))) None ≡ Some n) → SpellsNumber (c ∷ cs) n
read_signed c cs n true p em ep h =
    let parts = some_from (is_numeral cs) (neg_ℤ (pos (digits_value 10 cs))) n h in
    subst (λ (x : ℕ). SpellsNumber (x ∷ cs) n) (sym ((Decides-eqb c 45).0 em)) (subst (λ (m : ℤ). SpellsNumber (45 ∷ cs) m) parts.1 (minus cs parts.0))
read_signed c cs n false true em ep h =
    let parts = some_from (is_numeral cs) (pos (digits_value 10 cs)) n h in
    subst (λ (x : ℕ). SpellsNumber (x ∷ cs) n) (sym ((Decides-eqb c 43).0 ep)) (subst (λ (m : ℤ). SpellsNumber (43 ∷ cs) m) parts.1 (plus cs parts.0))
read_signed c cs n false false em ep h =
    let parts = some_from (is_numeral (c ∷ cs)) (pos (digits_value 10 (c ∷ cs))) n h in
    subst (λ (m : ℤ). SpellsNumber (c ∷ cs) m) parts.1 (plain (c ∷ cs) parts.0)

pub number_spelled : (word : List ℕ) (n : ℤ) → number_of word ≡ Some n → SpellsNumber word n
unfolding number_of
number_spelled [] n h = cc
number_spelled (c ∷ cs) n h = read_signed c cs n (c == 45) (c == 43) refl refl h

digit_signless : (c : ℕ) → is_ascii_digit c ≡ true → ((c == 45) ≡ false) × ((c == 43) ≡ false)
digit_signless c h = (grind (arith, nat_tests), grind (arith, nat_tests))

digit_solid : (c : ℕ) → is_ascii_digit c ≡ true → not (is_ascii_whitespace c) ≡ true
digit_solid c h = grind (arith, nat_tests)

pub spelled_number : (word : List ℕ) (n : ℤ) → SpellsNumber word n → number_of word ≡ Some n
unfolding number_of
spelled_number _ _ (plain [] numeral) = cc
spelled_number _ _ (plain (c ∷ cs) numeral) =
    let digits = and_parts (is_ascii_digit c) (list_all is_ascii_digit cs) (and_parts (nat_lt 0 (length (c ∷ cs))) (list_all is_ascii_digit (c ∷ cs)) numeral).1 in
    let signless = digit_signless c digits.0 in
    rw (signless.0, signless.1, numeral) refl
spelled_number _ _ (plus ds numeral) = rw numeral refl
spelled_number _ _ (minus ds numeral) = rw numeral refl

numeral_solid : (ds : List ℕ) → is_numeral ds ≡ true → (0 < length ds) × (is_solid ds ≡ true)
numeral_solid ds numeral =
    let parts = and_parts (nat_lt 0 (length ds)) (list_all is_ascii_digit ds) numeral in
    ((Decides-ltb 0 (length ds)).0 parts.0, all_weaker is_ascii_digit (λ c. not (is_ascii_whitespace c)) digit_solid ds parts.1)

number_solid : (word : List ℕ) (n : ℤ) → SpellsNumber word n → (0 < length word) × (is_solid word ≡ true)
number_solid _ _ (plain ds numeral) = numeral_solid ds numeral
number_solid _ _ (plus ds numeral) = (omega arith, (numeral_solid ds numeral).1)
number_solid _ _ (minus ds numeral) = (omega arith, (numeral_solid ds numeral).1)

pub number_law : (text : List ℕ) (n : ℤ) → number_of (word_of text) ≡ Some n ↔ ((word : List ℕ) × IsAmidBlanks text word × SpellsNumber word n)
number_law text n = (
  λ h. (word_of text, amid_word text, number_spelled (word_of text) n h),
  λ h. let solid = number_solid h.0 n h.2 in ap number_of (word_is text h.0 h.1 solid.0 solid.1) ∙ spelled_number h.0 n h.2,
)

-- truth values
lower_solid : (c : ℕ) → not (is_ascii_whitespace (to_ascii_lowercase c)) ≡ true → not (is_ascii_whitespace c) ≡ true
lower_solid c h = grind (arith, nat_tests)

start_solid : (least : ℕ) (full word : List ℕ) → 0 < least → is_solid full ≡ true → is_start least full word ≡ true → (0 < length word) × (is_solid word ≡ true)
unfolding is_start
start_solid least full word some solid h =
    let parts = and_parts (nat_le least (length word)) (bytes_eq (take (length word) full) word) h in
    let low : least ≤ length word = leb-true least (length word) parts.0 in
    let same : take (length word) full ≡ word = (bytes_eq-Decides (take (length word) full) word).0 parts.1 in
    (omega arith, subst (λ (w : List ℕ). is_solid w ≡ true) same (all_taken (λ c. not (is_ascii_whitespace c)) (length word) full solid))

by_or : (x y : Bool) (P : Type 0) → (x ≡ true → P) → (y ≡ true → P) → (x || y) ≡ true → P
by_or true y P f g h = f refl
by_or false y P f g h = g h

abbrev IsSolid : List ℕ → Type 0
IsSolid word = (0 < length word) × (is_solid word ≡ true)

four_solid : (a b c d : ℕ) (p q r s word : List ℕ) → 0 < a → 0 < b → 0 < c → 0 < d → is_solid p ≡ true → is_solid q ≡ true → is_solid r ≡ true → is_solid s ≡ true
    → (is_start a p word || (is_start b q word || (is_start c r word || is_start d s word))) ≡ true → IsSolid word
four_solid a b c d p q r s word la lb lc ld sp sq sr ss =
    by_or (is_start a p word) _ (IsSolid word) (start_solid a p word la sp)
    (by_or (is_start b q word) _ (IsSolid word) (start_solid b q word lb sq) (by_or (is_start c r word) (is_start d s word) (IsSolid word) (start_solid c r word lc sr) (start_solid d s word ld ss)))

true_solid : (word : List ℕ) → is_true_word word ≡ true → IsSolid word
unfolding is_true_word
true_solid word = four_solid 1 1 1 2 (codes "1") (codes "true") (codes "yes") (codes "on") word (omega arith) (omega arith) (omega arith) (omega arith) refl refl refl refl

false_solid : (word : List ℕ) → is_false_word word ≡ true → IsSolid word
unfolding is_false_word
false_solid word = four_solid 1 1 1 2 (codes "0") (codes "false") (codes "no") (codes "off") word (omega arith) (omega arith) (omega arith) (omega arith) refl refl refl refl

flagged_by : (p q b : Bool) → cond p (Some true) (cond q (Some false) None) ≡ Some b → (p || q) ≡ true
flagged_by true q b h = refl
flagged_by false true b h = refl
flagged_by false false b h = cc

lowered_solid : (word : List ℕ) → IsSolid (map to_ascii_lowercase word) → IsSolid word
lowered_solid word h = (
  omega (arith, h.0, length-map word to_ascii_lowercase),
  all_weaker (λ c. not (is_ascii_whitespace (to_ascii_lowercase c))) (λ c. not (is_ascii_whitespace c)) lower_solid word
      (sym (list_all-map (λ c. not (is_ascii_whitespace c)) to_ascii_lowercase word) ∙ h.1),
)

flag_solid : (word : List ℕ) (b : Bool) → flag_of word ≡ Some b → IsSolid word
unfolding flag_of
flag_solid word b h =
    lowered_solid word
    (by_or (is_true_word (map to_ascii_lowercase word)) (is_false_word (map to_ascii_lowercase word)) (IsSolid (map to_ascii_lowercase word))
    (true_solid (map to_ascii_lowercase word))
    (false_solid (map to_ascii_lowercase word))
    (flagged_by (is_true_word (map to_ascii_lowercase word)) (is_false_word (map to_ascii_lowercase word)) b h))

pub flag_law : (text : List ℕ) (b : Bool) → flag_of (word_of text) ≡ Some b ↔ ((word : List ℕ) × IsAmidBlanks text word × (flag_of word ≡ Some b))
flag_law text b = (
  λ h. (word_of text, amid_word text, h),
  λ h. let solid = flag_solid h.0 b h.2 in ap flag_of (word_is text h.0 h.1 solid.0 solid.1) ∙ h.2,
)
