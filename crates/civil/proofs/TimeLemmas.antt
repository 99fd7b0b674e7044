-- What the texts of times and offsets have at their places, and what their parts make.
use Rattle.std.proofs.Common.{subst, ◌≡◌, ℕ, Bool, true, false, true≢false, cond, ◌&&◌, ◌||◌, List, [], ◌∷◌, take, drop, refl, sym, ap, ap₂, ◌∙◌, drop-drop, ℤ, pos, ◌+ℤ◌, ◌-ℤ◌, ◌*ℤ◌, Some, None}
use Rattle.std.specs.Char.{is_ascii_digit}
use Rattle.std.specs.List.{list_all}
use Rattle.std.proofs.lemmas.Bool.{and_parts, and_from}
use Rattle.civil.specs.Days.{day_number, is_day}
use Rattle.civil.specs.work.Days.{number_of_day}
use Rattle.civil.specs.Forms.{has_form, has_a_form}
use Rattle.civil.specs.Times.{clock_micros, day_in, day_micros, has_instant, instant, is_between, is_clock, is_instant, is_moment, is_offset, is_time_part, is_timestamp_text, is_date_text, moment, offset_forms, offset_micros, time_forms}
use Rattle.civil.proofs.FormLemmas.{digits-at, digits-behind, is_for_digit}

-- a value that was kept by a test, and none
pub kept : {A : Type 0} (b : Bool) (x y : A) → Some y ≡ cond b (Some x) None → (b ≡ true) × (y ≡ x)
kept true x y h = (refl, cc)
kept false x y h = cc

pub none : {A : Type 0} (b : Bool) (x : A) → None ≡ cond b (Some x) None → b ≡ false
none true x is = absurd (cc (is))
none false x is = refl

-- a text with one of some forms has what each of them gives
by-form : (P : Type 0) (test : List ℕ → Bool) (text : List ℕ) → ((form : List ℕ) → has_form form text ≡ true → test form ≡ true → P) →
    (forms : List (List ℕ)) → list_all test forms ≡ true → has_a_form forms text ≡ true → P
by-form P test text give [] all h = absurd (true≢false (sym h))
by-form P test text give (form ∷ forms) all h =
    let parts = and_parts (test form) (list_all test forms) all in
    by (has_form form text) refl (λ e. give form e parts.0) (by-form P test text give forms parts.1) h
  where
    by : (b : Bool) → has_form form text ≡ b → (has_form form text ≡ true → P) → (has_a_form forms text ≡ true → P) → (b || has_a_form forms text) ≡ true → P
    by true e here there h = here e
    by false e here there h = there h

-- a time has digits where its parts are written, or ends before
pub record IsTimeShaped (time : List ℕ) : Type 0 where
  pub hours : list_all is_ascii_digit (take 2 (drop 0 time)) ≡ true
  pub minutes : list_all is_ascii_digit (take 2 (drop 3 time)) ≡ true
  pub seconds : list_all is_ascii_digit (take 2 (drop 6 time)) ≡ true
  pub fraction : list_all is_ascii_digit (drop 9 time) ≡ true

time_test : List ℕ → Bool
time_test form = list_all is_for_digit (take 2 (drop 0 form)) && (list_all is_for_digit (take 2 (drop 3 form)) && (list_all is_for_digit (take 2 (drop 6 form)) && list_all is_for_digit (drop 9 form)))

time-of-form : (time form : List ℕ) → has_form form time ≡ true → time_test form ≡ true → IsTimeShaped time
unfolding time_test
time-of-form time form h t =
    let a = and_parts (list_all is_for_digit (take 2 (drop 0 form))) _ t in
    let b = and_parts (list_all is_for_digit (take 2 (drop 3 form))) _ a.1 in
    let c = and_parts (list_all is_for_digit (take 2 (drop 6 form))) _ b.1 in
    record {
      hours = digits-at 0 2 form time h a.0;
      minutes = digits-at 3 2 form time h b.0;
      seconds = digits-at 6 2 form time h c.0;
      fraction = digits-behind 9 form time h c.1;
    }

pub time-of-part : (part : List ℕ) → is_time_part part ≡ true → IsTimeShaped (drop 1 part)
unfolding time_test
time-of-part [] h = record { hours = refl; minutes = refl; seconds = refl; fraction = refl }
time-of-part (c ∷ time) h =
    by-form (IsTimeShaped time) time_test time (time-of-form time) time_forms refl (and_parts (is_between c) (has_a_form time_forms time) h).1

-- the time of a timestamp's text
pub time-of-text : (text time : List ℕ) → time ≡ drop 11 text → is_timestamp_text text ≡ true → IsTimeShaped time
time-of-text text time is h =
    subst IsTimeShaped (drop-drop 1 10 text ∙ sym is) (time-of-part (drop 10 text) (and_parts (is_date_text (take 10 text)) (is_time_part (drop 10 text)) h).1)

-- an offset has digits where its parts are written, or ends before
pub record IsOffsetShaped (offset : List ℕ) : Type 0 where
  pub hours : list_all is_ascii_digit (take 2 (drop 1 offset)) ≡ true
  pub minutes : list_all is_ascii_digit (take 2 (drop 4 offset)) ≡ true

offset_test : List ℕ → Bool
offset_test form = list_all is_for_digit (take 2 (drop 1 form)) && list_all is_for_digit (take 2 (drop 4 form))

offset-of-form : (offset form : List ℕ) → has_form form offset ≡ true → offset_test form ≡ true → IsOffsetShaped offset
unfolding offset_test
offset-of-form offset form h t =
    let parts = and_parts (list_all is_for_digit (take 2 (drop 1 form))) (list_all is_for_digit (take 2 (drop 4 form))) t in
    record { hours = digits-at 1 2 form offset h parts.0; minutes = digits-at 4 2 form offset h parts.1 }

pub offset-shaped : (offset : List ℕ) → has_a_form offset_forms offset ≡ true → IsOffsetShaped offset
unfolding offset_test
offset-shaped offset = by-form (IsOffsetShaped offset) offset_test offset (offset-of-form offset) offset_forms refl

-- a day and a clock's time make a moment
pub moment-found : (text : List ℕ) (d : ℤ) (k : ℕ) (n : ℤ) → Some d ≡ number_of_day (day_in text) → Some k ≡ cond (is_clock (drop 11 text)) (Some (clock_micros (drop 11 text))) None →
    n ≡ d *ℤ day_micros +ℤ pos k → Some n ≡ cond (is_moment text) (Some (moment text)) None
moment-found text d k n day clock is =
    let dd = kept (is_day (day_in text)) (day_number (day_in text)) d day in
    let kk = kept (is_clock (drop 11 text)) (clock_micros (drop 11 text)) k clock in
    let both = and_from (is_day (day_in text)) (is_clock (drop 11 text)) dd.0 kk.0 in
    let same : n ≡ moment text = is ∙ (ap (λ (z : ℤ). z *ℤ day_micros +ℤ pos k) dd.1 ∙ ap (λ (j : ℕ). day_number (day_in text) *ℤ day_micros +ℤ pos j) kk.1) in
    ap Some same ∙ sym (ap (λ (b : Bool). cond b (Some (moment text)) None) both)

-- a moment and an offset make an instant that is in range or not
instant-found : (clock offset : List ℕ) (m o n : ℤ) (b : Bool) → Some m ≡ cond (is_moment clock) (Some (moment clock)) None → Some o ≡ cond (is_offset offset) (Some (offset_micros offset)) None →
    n ≡ m -ℤ o → b ≡ is_instant n → cond b (Some n) None ≡ cond (has_instant clock offset) (Some (instant clock offset)) None
instant-found clock offset m o n b moments offsets is tested =
    let mm = kept (is_moment clock) (moment clock) m moments in
    let oo = kept (is_offset offset) (offset_micros offset) o offsets in
    let same : n ≡ instant clock offset = is ∙ ap₂ ◌-ℤ◌ mm.1 oo.1 in
    let test : b ≡ has_instant clock offset = tested ∙ (ap is_instant same ∙ sym (ap₂ (λ (x y : Bool). x && (y && is_instant (instant clock offset))) mm.0 oo.0)) in
    ap₂ (λ (t : Bool) (z : ℤ). cond t (Some z) None) test same

pub instant-yes : (clock offset : List ℕ) (m o n : ℤ) (b : Bool) → Some m ≡ cond (is_moment clock) (Some (moment clock)) None → Some o ≡ cond (is_offset offset) (Some (offset_micros offset)) None →
    n ≡ m -ℤ o → b ≡ is_instant n → b ≡ true → Some n ≡ cond (has_instant clock offset) (Some (instant clock offset)) None
instant-yes clock offset m o n b moments offsets is tested right = sym (ap (λ (t : Bool). cond t (Some n) None) right) ∙ instant-found clock offset m o n b moments offsets is tested

pub instant-not : (clock offset : List ℕ) (m o n : ℤ) (b : Bool) → Some m ≡ cond (is_moment clock) (Some (moment clock)) None → Some o ≡ cond (is_offset offset) (Some (offset_micros offset)) None →
    n ≡ m -ℤ o → b ≡ is_instant n → b ≡ false → None ≡ cond (has_instant clock offset) (Some (instant clock offset)) None
instant-not clock offset m o n b moments offsets is tested wrong = sym (ap (λ (t : Bool). cond t (Some n) None) wrong) ∙ instant-found clock offset m o n b moments offsets is tested
