-- The texts of times and timestamps are read back.
use Rattle.std.proofs.Common.{◌≡◌, ℕ, zero, suc, ◌+◌, ◌-◌, ◌*◌, ◌/◌, ◌%◌, ◌^◌, ◌<◌, ◌≤◌, Bool, true, false, cond, ◌&&◌, ◌||◌, List, [], ◌∷◌, ◌++◌, length, take, take_all, drop, replicate, get_or, refl, sym, ap, ap₂, subst, ◌∙◌, arith, ℤ, pos, neg_ℤ, ◌+ℤ◌, ◌-ℤ◌, ◌*ℤ◌, unsigned_abs, Ok}
use Rattle.std.specs.Prelude.{codes, nat_eq, nat_le}
use Rattle.std.specs.Char.{is_ascii_digit}
use Rattle.std.specs.Int.{int_div_euclid, int_rem_euclid}
use Rattle.std.specs.List.{list_all, prefix_len}
use Rattle.std.specs.Str.Parse.{digits_value}
use Rattle.std.proofs.lemmas.Bool.{and_from, and_parts, eqb-true, eqb-false, le-leb}
use Rattle.std.proofs.lemmas.Int.{ints}
use Rattle.std.proofs.lemmas.List.Folds.{list_all-append, list_any_at}
use Rattle.std.proofs.Math.Nat.{pow-suc}
use Rattle.std.proofs.Math.Seq.{drop-append_seam, take-append_seam}
use Rattle.jiff_core.proofs.SignedLemmas.{int_div_euclid-parts, int_rem_euclid-parts, one_part, signed_arith}
use Rattle.civil.specs.Days.{Day, day_number, is_date_number, is_day}
use Rattle.civil.specs.Forms.{fraction, has_a_form, has_form, number_at}
use Rattle.civil.specs.Shown.{day_text, figures, fraction_text, short_figures, time_text, timestamp_text_of, timestamptz_text_of}
use Rattle.civil.specs.Times.{clock_micros, day_in, day_micros, formed, has_instant, instant, instant_value, is_clock, is_date_text, is_instant, is_moment, is_of_time, is_time_part, is_timestamp_text, moment, offset_of, offset_place, ranged, time_forms, timestamp_value, timestamptz_value, without_offset}
use Rattle.civil.proofs.DateTextLemmas.{HasDay, day-there, text-day, text-form, text_of}
use Rattle.civil.proofs.FigureLemmas.{figure-digit, figures-digits, figures-of}
use Rattle.civil.proofs.NumberedLemmas.{at-least, in-calendar, numbered}
use Rattle.civil.proofs.ReadLemmas.{within}
use Rattle.civil.proofs.WrittenLemmas.{length-figures, short-rest, short-zero}

-- figures without the zeros at their end are fewer figures of a smaller number
record IsShort (count n : ℕ) : Type 0 where
  places : ℕ
  size : ℕ
  some : 1 ≤ places
  few : places ≤ count
  is : short_figures count n ≡ figures places size
  small : size < 10 ^ places
  value : size * 10 ^ (count - places) ≡ n

short-tenth : (k n : ℕ) → n % 10 ≡ 0 → IsShort k (n / 10) → IsShort (suc k) n
short-tenth k n zeros h =
    let less : suc k - 1 ≡ k = omega arith in
    let more : suc k - h.places ≡ suc (k - h.places) = omega (arith, h.few) in
    let power : 10 ^ (suc k - h.places) ≡ 10 ^ (k - h.places) * 10 = ap (λ (j : ℕ). 10 ^ j) more ∙ pow-suc 10 (k - h.places) in
    record {
      places = h.places;
      size = h.size;
      some = h.some;
      few = omega (arith, h.few);
      is = sym (short-zero (suc k) n (omega arith) zeros) ∙ (ap (λ (j : ℕ). short_figures j (n / 10)) less ∙ h.is);
      small = h.small;
      value = ap (λ (j : ℕ). h.size * j) power ∙ omega (arith, h.value, zeros);
    }

short-whole : (k n : ℕ) → n < 10 ^ suc k → ¬ (n % 10 ≡ 0) → IsShort (suc k) n
short-whole k n below rest =
    let none : suc k - suc k ≡ 0 = omega arith in
    record {
      places = suc k;
      size = n;
      some = omega arith;
      few = omega arith;
      is = sym (short-rest (suc k) n (omega arith) rest);
      small = below;
      value = ap (λ (j : ℕ). n * 10 ^ j) none ∙ omega arith;
    }

short-of : (count n : ℕ) → 0 < n → n < 10 ^ count → IsShort count n
short-of zero n some below = absurd (omega (arith, some, below))
short-of (suc k) n some below = by (nat_eq (n % 10) 0) refl (λ tenth less. short-of k (n / 10) tenth less)
  where
    by : (b : Bool) → nat_eq (n % 10) 0 ≡ b → (0 < n / 10 → n / 10 < 10 ^ k → IsShort k (n / 10)) → IsShort (suc k) n
    by true e rest =
        let zeros = eqb-true (n % 10) 0 e in
        let power = pow-suc 10 k in
        short-tenth k n zeros (rest (omega (arith, some, zeros)) (omega (arith, below, power)))
    by false e rest = short-whole k n below (eqb-false (n % 10) 0 e)

-- digits have a form of as many D
digits-form : (ds : List ℕ) → list_all is_ascii_digit ds ≡ true → has_form (replicate (length ds) 68) ds ≡ true
unfolding has_form
digits-form [] h = refl
digits-form (c ∷ cs) h =
    let parts = and_parts (is_ascii_digit c) (list_all is_ascii_digit cs) h in
    and_from (is_ascii_digit c) (has_form (replicate (length cs) 68) cs) parts.0 (digits-form cs parts.1)

figures-form : (count n : ℕ) → has_form (replicate count 68) (figures count n) ≡ true
figures-form count n = subst (λ (k : ℕ). has_form (replicate k 68) (figures count n) ≡ true) (length-figures count n) (digits-form (figures count n) (figures-digits count n))

-- the text of an hour, a minute and a second, with what stands behind it
abbrev clock_text : ℕ → ℕ → ℕ → List ℕ → List ℕ
clock_text h m s rest = figures 2 h ++ (codes ":" ++ (figures 2 m ++ (codes ":" ++ (figures 2 s ++ rest))))

clock-form : (h m s : ℕ) (form rest : List ℕ) → has_form form rest ≡ true → has_form (codes "DD:DD:DD" ++ form) (clock_text h m s rest) ≡ true
unfolding figures has_form
clock-form h m s form rest is =
    and_from _ _ (figure-digit (h / 10)) (and_from _ _ (figure-digit h) (and_from _ _ (figure-digit (m / 10)) (and_from _ _ (figure-digit m)
    (and_from _ _ (figure-digit (s / 10)) (and_from _ _ (figure-digit s) is)))))

-- a point and figures, and nothing
point-form : (h m s count n place : ℕ) → place < 8 → get_or time_forms place [] ≡ codes "DD:DD:DD" ++ (46 ∷ replicate count 68) → has_a_form time_forms (clock_text h m s (46 ∷ figures count n)) ≡ true
unfolding has_form
point-form h m s count n place few is =
    list_any_at (λ form. has_form form (clock_text h m s (46 ∷ figures count n))) time_forms place [] few
    (ap (λ (form : List ℕ). has_form form (clock_text h m s (46 ∷ figures count n))) is ∙ clock-form h m s (46 ∷ replicate count 68) (46 ∷ figures count n) (figures-form count n))

some-point : (h m s count n : ℕ) → 1 ≤ count → count ≤ 6 → has_a_form time_forms (clock_text h m s (46 ∷ figures count n)) ≡ true
some-point h m s zero n some few = absurd (omega (arith, some))
some-point h m s (suc zero) n some few = point-form h m s 1 n 2 (omega arith) refl
some-point h m s (suc (suc zero)) n some few = point-form h m s 2 n 3 (omega arith) refl
some-point h m s (suc (suc (suc zero))) n some few = point-form h m s 3 n 4 (omega arith) refl
some-point h m s (suc (suc (suc (suc zero)))) n some few = point-form h m s 4 n 5 (omega arith) refl
some-point h m s (suc (suc (suc (suc (suc zero))))) n some few = point-form h m s 5 n 6 (omega arith) refl
some-point h m s (suc (suc (suc (suc (suc (suc zero)))))) n some few = point-form h m s 6 n 7 (omega arith) refl
some-point h m s (suc (suc (suc (suc (suc (suc (suc k))))))) n some few = absurd (omega (arith, few))

no-point : (h m s : ℕ) → has_a_form time_forms (clock_text h m s []) ≡ true
unfolding has_form
no-point h m s = list_any_at (λ form. has_form form (clock_text h m s [])) time_forms 1 [] (omega arith) (clock-form h m s [] [] refl)

-- what is known of the fraction's text
record IsFraction (n : ℕ) (text : List ℕ) : Type 0 where
  form : (h m s : ℕ) → has_a_form time_forms (clock_text h m s text) ≡ true
  value : fraction 6 (drop 1 text) ≡ n
  bytes : list_all is_of_time text ≡ true

all-of-time : (ds : List ℕ) → list_all is_ascii_digit ds ≡ true → list_all is_of_time ds ≡ true
all-of-time [] h = refl
all-of-time (c ∷ cs) h =
    let parts = and_parts (is_ascii_digit c) (list_all is_ascii_digit cs) h in
    and_from (is_of_time c) (list_all is_of_time cs) (ap (λ (b : Bool). b || (nat_eq c 58 || nat_eq c 46)) parts.0) (all-of-time cs parts.1)

fraction-of : (count n : ℕ) → count ≤ 6 → n < 10 ^ count → fraction 6 (figures count n) ≡ n * 10 ^ (6 - count)
fraction-of count n few small =
    let long = length-figures count n in
    let whole : take 6 (figures count n) ≡ figures count n = take_all 6 (figures count n) (omega (arith, few, long)) in
    ap (λ (ds : List ℕ). digits_value 10 ds * 10 ^ (6 - length ds)) whole ∙ ap₂ (λ (v k : ℕ). v * 10 ^ (6 - k)) (figures-of count n small) long

fraction-is : (n : ℕ) → n < 1_000_000 → IsFraction n (fraction_text n)
fraction-is n below = by (nat_eq n 0) refl
  where
    some : (k : ℕ) → ¬ (k ≡ 0) → 0 < k
    some k apart = omega (arith, apart)

    pointed : IsShort 6 n → IsFraction n (46 ∷ short_figures 6 n)
    pointed h = subst (λ (ds : List ℕ). IsFraction n (46 ∷ ds)) (sym h.is) (record {
      form = λ hour minute second. some-point hour minute second h.places h.size h.some h.few;
      value = fraction-of h.places h.size h.few h.small ∙ h.value;
      bytes = all-of-time (figures h.places h.size) (figures-digits h.places h.size);
    })

    by : (b : Bool) → nat_eq n 0 ≡ b → IsFraction n (cond b [] (codes "." ++ short_figures 6 n))
    by true e = record { form = no-point; value = sym (eqb-true n 0 e); bytes = refl }
    by false e =
        pointed (short-of 6 n (some n (eqb-false n 0 e)) below)

-- the text of a time of day
pub time-form : (k : ℕ) → has_a_form time_forms (time_text k) ≡ true
time-form k = (fraction-is (k % 1_000_000) (omega arith)).form (k / 3_600_000_000) (k / 60_000_000 % 60) (k / 1_000_000 % 60)

clock-reads : (h m s f : ℕ) (rest : List ℕ) → h ≤ 23 → m ≤ 59 → s ≤ 59 → IsFraction f rest →
    (is_clock (clock_text h m s rest) ≡ true) × (clock_micros (clock_text h m s rest) ≡ ((h * 60 + m) * 60 + s) * 1_000_000 + f)
unfolding figures
clock-reads h m s f rest hour minute second part =
    let hh : number_at 0 2 (clock_text h m s rest) ≡ h = figures-of 2 h (omega (arith, hour)) in
    let mm : number_at 3 2 (clock_text h m s rest) ≡ m = figures-of 2 m (omega (arith, minute)) in
    let ss : number_at 6 2 (clock_text h m s rest) ≡ s = figures-of 2 s (omega (arith, second)) in
    let ff : fraction 6 (drop 9 (clock_text h m s rest)) ≡ f = part.value in
    let one = ap (λ (n : ℕ). nat_le n 23) hh ∙ le-leb h 23 hour in
    let two = ap (λ (n : ℕ). nat_le n 59) mm ∙ le-leb m 59 minute in
    let three = ap (λ (n : ℕ). nat_le n 59) ss ∙ le-leb s 59 second in (
      and_from (nat_le (number_at 0 2 (clock_text h m s rest)) 23) _ one (and_from (nat_le (number_at 3 2 (clock_text h m s rest)) 59) (nat_le (number_at 6 2 (clock_text h m s rest)) 59) two three),
      ap₂ (λ (x y : ℕ). x * 1_000_000 + y) (ap₂ (λ (x y : ℕ). x * 60 + y) (ap₂ (λ (x y : ℕ). x * 60 + y) hh mm) ss) ff,
    )

pub time-reads : (k : ℕ) → k < 86_400_000_000 → (is_clock (time_text k) ≡ true) × (clock_micros (time_text k) ≡ k)
time-reads k below =
    let hour : k / 3_600_000_000 ≤ 23 = omega (arith, below) in
    let minute : k / 60_000_000 % 60 ≤ 59 = omega arith in
    let second : k / 1_000_000 % 60 ≤ 59 = omega arith in
    let parts = clock-reads (k / 3_600_000_000) (k / 60_000_000 % 60) (k / 1_000_000 % 60) (k % 1_000_000) (fraction_text (k % 1_000_000)) hour minute second (fraction-is (k % 1_000_000) (omega arith)) in
    let whole : ((k / 3_600_000_000 * 60 + k / 60_000_000 % 60) * 60 + k / 1_000_000 % 60) * 1_000_000 + k % 1_000_000 ≡ k = omega arith in
    (parts.0, parts.1 ∙ whole)

time-bytes : (k : ℕ) → list_all is_of_time (time_text k) ≡ true
time-bytes k =
    clock-bytes (k / 3_600_000_000) (k / 60_000_000 % 60) (k / 1_000_000 % 60) (fraction_text (k % 1_000_000)) (fraction-is (k % 1_000_000) (omega arith)).bytes
  where
    part : (n : ℕ) (rest : List ℕ) → list_all is_of_time rest ≡ true → list_all is_of_time (figures 2 n ++ rest) ≡ true
    part n rest h = list_all-append is_of_time (figures 2 n) rest ∙ and_from (list_all is_of_time (figures 2 n)) (list_all is_of_time rest) (all-of-time (figures 2 n) (figures-digits 2 n)) h

    clock-bytes : (h m s : ℕ) (rest : List ℕ) → list_all is_of_time rest ≡ true → list_all is_of_time (clock_text h m s rest) ≡ true
    clock-bytes h m s rest is = part h (codes ":" ++ (figures 2 m ++ (codes ":" ++ (figures 2 s ++ rest)))) (part m (codes ":" ++ (figures 2 s ++ rest)) (part s rest is))

-- the text of a day and a time
abbrev stamp_text : Day → ℕ → List ℕ
stamp_text x k = text_of x (32 ∷ time_text k)

stamp-form : (x : Day) (k : ℕ) → is_timestamp_text (stamp_text x k) ≡ true
unfolding figures
stamp-form x k =
    and_from (is_date_text (take 10 (stamp_text x k))) (is_time_part (drop 10 (stamp_text x k))) (text-form x (32 ∷ time_text k)) (time-form k)

stamp-time : (x : Day) (k : ℕ) → drop 11 (stamp_text x k) ≡ time_text k
unfolding figures
stamp-time x k = refl

stamp-reads : (x : Day) (k : ℕ) → is_day x ≡ true → k < 86_400_000_000 →
    (is_moment (stamp_text x k) ≡ true) × (moment (stamp_text x k) ≡ day_number x *ℤ day_micros +ℤ pos k)
stamp-reads x k there below =
    let day : day_in (stamp_text x k) ≡ x = text-day x (32 ∷ time_text k) (in-calendar x there) in
    let time = stamp-time x k in
    let reads = time-reads k below in (
      ap₂ (λ (y : Day) (t : List ℕ). is_day y && is_clock t) day time ∙ and_from (is_day x) (is_clock (time_text k)) there reads.0,
      ap₂ (λ (y : Day) (t : List ℕ). day_number y *ℤ day_micros +ℤ pos (clock_micros t)) day time ∙ ap (λ (j : ℕ). day_number x *ℤ day_micros +ℤ pos j) reads.1,
    )

-- the day and the time of day of an instant
record HasStamp (n : ℤ) : Type 0 where
  day : Day
  there : is_day day ≡ true
  time : ℕ
  below : time < 86_400_000_000
  is : timestamp_text_of n ≡ stamp_text day time
  value : day_number day *ℤ day_micros +ℤ pos time ≡ n

split-day : (n : ℤ) → is_instant n ≡ true → is_date_number (int_div_euclid n day_micros) ≡ true
split-day n range =
    let ends = at-least (neg_ℤ (pos 63_082_281_600_000_000)) n (pos 252_455_615_999_999_999) range in
    let parts = int_div_euclid-parts n 86_400_000_000 (omega arith) in
    within (neg_ℤ (pos 730_119)) (int_div_euclid n day_micros) (pos 2_921_939)
    (omega (arith, signed_arith, ends.0, ends.1, parts.0, parts.1, one_part n, one_part (int_div_euclid n day_micros)))
    (omega (arith, signed_arith, ends.0, ends.1, parts.0, parts.1, one_part n, one_part (int_div_euclid n day_micros)))

split-time : (n : ℤ) → unsigned_abs (int_rem_euclid n day_micros) < 86_400_000_000
split-time n =
    let parts = int_rem_euclid-parts n 86_400_000_000 (omega arith) in
    omega (arith, signed_arith, parts.1, parts.2)

split-whole : (n d : ℤ) → d ≡ int_div_euclid n day_micros → d *ℤ day_micros +ℤ pos (unsigned_abs (int_rem_euclid n day_micros)) ≡ n
split-whole n d is =
    let parts = int_rem_euclid-parts n 86_400_000_000 (omega arith) in
    subst (λ (z : ℤ). z *ℤ day_micros +ℤ pos (unsigned_abs (int_rem_euclid n day_micros)) ≡ n) (sym is) (omega (arith, signed_arith, parts.0, parts.1, parts.2))

stamp-of : (n : ℤ) → is_instant n ≡ true → HasStamp n
stamp-of n range = by (day-there (int_div_euclid n day_micros) (split-day n range))
  where
    by : HasDay (int_div_euclid n day_micros) → HasStamp n
    by h = record {
      day = h.day;
      there = h.has.there;
      time = unsigned_abs (int_rem_euclid n day_micros);
      below = split-time n;
      is = ap (λ (t : List ℕ). t ++ (32 ∷ time_text (unsigned_abs (int_rem_euclid n day_micros)))) (ap day_text (numbered h.day (int_div_euclid n day_micros) h.has.there h.has.number));
      value = split-whole n (day_number h.day) h.has.number;
    }

-- the text of a timestamp spells it
pub timestamp-back : (n : ℤ) → is_instant n ≡ true → timestamp_value (timestamp_text_of n) ≡ Ok n
timestamp-back n range = by (stamp-of n range)
  where
    by : HasStamp n → timestamp_value (timestamp_text_of n) ≡ Ok n
    by h =
        let form = stamp-form h.day h.time in
        let reads = stamp-reads h.day h.time h.there h.below in
        ap timestamp_value h.is ∙ (ap₂ (λ (f r : Bool). formed f (ranged r (moment (stamp_text h.day h.time)))) form reads.0 ∙ ap Ok (reads.1 ∙ h.value))

-- where the offset begins
of-time-end : (xs ys : List ℕ) → list_all is_of_time xs ≡ true → prefix_len is_of_time (xs ++ 43 ∷ ys) ≡ length xs
of-time-end [] ys h = refl
of-time-end (c ∷ cs) ys h =
    let parts = and_parts (is_of_time c) (list_all is_of_time cs) h in
    ap (λ (b : Bool). cond b (1 + prefix_len is_of_time (cs ++ 43 ∷ ys)) 0) parts.0 ∙ omega (arith, of-time-end cs ys parts.1)

stamp-place : (x : Day) (k : ℕ) (ys : List ℕ) → offset_place (stamp_text x k ++ 43 ∷ ys) ≡ length (stamp_text x k)
unfolding figures
stamp-place x k ys =
    let end : prefix_len is_of_time (time_text k ++ 43 ∷ ys) ≡ length (time_text k) = of-time-end (time_text k) ys (time-bytes k) in
    let long : length (stamp_text x k) ≡ 11 + length (time_text k) = omega arith in
    ap (λ (j : ℕ). 11 + j) end ∙ sym long

-- the instant of a timestamp's text at +00
zone-reads : (clock : List ℕ) (n : ℤ) → is_timestamp_text clock ≡ true → is_moment clock ≡ true → moment clock ≡ n → is_instant n ≡ true → instant_value clock (codes "+00") ≡ Ok n
unfolding has_form
zone-reads clock n form there is range =
    let none : instant clock (codes "+00") ≡ n = less (moment clock) n is in
    let inside : has_instant clock (codes "+00") ≡ true = and_from (is_moment clock) (is_instant (instant clock (codes "+00"))) there (ap is_instant none ∙ range) in
    ap₂ (λ (f r : Bool). formed f (ranged r (instant clock (codes "+00")))) (and_from (is_timestamp_text clock) true form refl) inside ∙ ap Ok none
  where
    less : (m n : ℤ) → m ≡ n → m -ℤ pos 0 ≡ n
    less m n is = omega (arith, ints, is)

-- the text of a timestamp with time zone spells it
pub timestamptz-back : (n : ℤ) → is_instant n ≡ true → timestamptz_value (timestamptz_text_of n) ≡ Ok n
timestamptz-back n range = by (stamp-of n range)
  where
    by : HasStamp n → timestamptz_value (timestamptz_text_of n) ≡ Ok n
    by h =
        let clock = stamp_text h.day h.time in
        let place = stamp-place h.day h.time (codes "00") in
        let before : without_offset (clock ++ codes "+00") ≡ clock = ap (λ (j : ℕ). take j (clock ++ codes "+00")) place ∙ take-append_seam clock (codes "+00") in
        let behind : offset_of (clock ++ codes "+00") ≡ codes "+00" = ap (λ (j : ℕ). drop j (clock ++ codes "+00")) place ∙ drop-append_seam clock (codes "+00") in
        let reads = stamp-reads h.day h.time h.there h.below in
        ap (λ (t : List ℕ). timestamptz_value (t ++ codes "+00")) h.is
        ∙ (ap₂ instant_value before behind ∙ zone-reads clock n (stamp-form h.day h.time) reads.0 (reads.1 ∙ h.value) range)
