-- Days, microseconds and offsets have room in 64 bits.
use Rattle.std.proofs.Common.{◌≡◌, ℕ, ◌+◌, ◌*◌, ◌<◌, ◌≤◌, Bool, true, false, cond, ◌&&◌, List, sym, ap, ap₂, subst, ◌∙◌, arith, ℤ, pos, neg_ℤ, ◌+ℤ◌, ◌-ℤ◌, ◌*ℤ◌, ◌≤ℤ◌, unsigned_abs, Some, None, Ok, Err, w32, w64, to_z, of_z, FitsSigned}
use Rattle.std.proofs.lemmas.Bool.{and_from, and_parts}
use Rattle.std.proofs.lemmas.Int.{to_z_pos}
use Rattle.jiff_core.proofs.SignedLemmas.{back_small, one_part, product_within, signed_arith}
use Rattle.civil.specs.Days.{day_number, is_date_number, is_day}
use Rattle.civil.specs.work.Days.{number_of_day}
use Rattle.civil.specs.Forms.{has_a_form, signed}
use Rattle.civil.specs.Times.{day_in, day_micros, formed, has_instant, instant, instant_value, is_instant, is_moment, is_offset, is_timestamp_text, offset_forms, ranged}
use Rattle.civil.specs.declared.unread.Unread.TheVariants.{Range}
use Rattle.civil.proofs.NumberedLemmas.{at-least}
use Rattle.civil.proofs.ReadLemmas.{day-bound}
use Rattle.civil.proofs.TimeLemmas.{kept, none}

fits-small : (z : ℤ) → unsigned_abs z < 9_223_372_036_854_775_808 → FitsSigned w64 z
fits-small z h = omega (arith, signed_arith, one_part z, h)

-- the day that a text begins with
day-range : (text : List ℕ) (d : ℤ) → Some d ≡ number_of_day (day_in text) → is_date_number d ≡ true
day-range text d is =
    let parts = kept (is_day (day_in text)) (day_number (day_in text)) d is in
    subst (λ (z : ℤ). is_date_number z ≡ true) (sym parts.1) (day-bound (day_in text) parts.0)

small-day : (d : ℤ) → is_date_number d ≡ true → unsigned_abs d ≤ 2_921_939
small-day d range =
    let ends = at-least (neg_ℤ (pos 730_119)) d (pos 2_921_939) range in
    omega (arith, signed_arith, ends.0, ends.1, one_part d)

-- the number of a day as one of 32 bits
pub day-is : (text : List ℕ) (d f : ℤ) → Some d ≡ number_of_day (day_in text) → f ≡ to_z w32 (of_z w32 d) → f ≡ d
day-is text d f day is =
    let small : unsigned_abs d < 2_147_483_648 = omega (arith, small-day d (day-range text d day)) in
    is ∙ back_small w32 d small

micros-small : (d : ℤ) → is_date_number d ≡ true → unsigned_abs (d *ℤ day_micros) ≤ 252_455_529_600_000_000
micros-small d range = product_within d day_micros 2_921_939 86_400_000_000 (small-day d range) (omega arith)

sum-small : (d : ℤ) (k : ℕ) → is_date_number d ≡ true → k < 86_400_000_000 → unsigned_abs (d *ℤ day_micros +ℤ pos k) ≤ 300_000_000_000_000_000
sum-small d k range small = sum (d *ℤ day_micros) (micros-small d range)
  where
    sum : (z : ℤ) → unsigned_abs z ≤ 252_455_529_600_000_000 → unsigned_abs (z +ℤ pos k) ≤ 300_000_000_000_000_000
    sum z h = omega (arith, signed_arith, one_part z, one_part (z +ℤ pos k), h, small)

-- the microseconds of whole days
micros-is : (d f : ℤ) → is_date_number d ≡ true → f ≡ d → to_z w64 (of_z w64 f) *ℤ day_micros ≡ d *ℤ day_micros
micros-is d f range is =
    let small : unsigned_abs d < 9_223_372_036_854_775_808 = omega (arith, small-day d range) in
    ap (λ (z : ℤ). z *ℤ day_micros) (ap (λ (z : ℤ). to_z w64 (of_z w64 z)) is ∙ back_small w64 d small)

pub micros-fit : (text : List ℕ) (d f : ℤ) → Some d ≡ number_of_day (day_in text) → f ≡ d → FitsSigned w64 (to_z w64 (of_z w64 f) *ℤ day_micros)
micros-fit text d f day is =
    let range = day-range text d day in
    let small : unsigned_abs (d *ℤ day_micros) < 9_223_372_036_854_775_808 = omega (arith, micros-small d range) in
    subst (FitsSigned w64) (sym (micros-is d f range is)) (fits-small (d *ℤ day_micros) small)

-- the microseconds of whole days and those of a time
sum-is : (d f : ℤ) (k : ℕ) → is_date_number d ≡ true → f ≡ d → k < 86_400_000_000 →
    to_z w64 (of_z w64 (to_z w64 (of_z w64 f) *ℤ day_micros)) +ℤ to_z w64 k ≡ d *ℤ day_micros +ℤ pos k
sum-is d f k range is small =
    let room : unsigned_abs (d *ℤ day_micros) < 9_223_372_036_854_775_808 = omega (arith, micros-small d range) in
    ap₂ ◌+ℤ◌ (ap (λ (z : ℤ). to_z w64 (of_z w64 z)) (micros-is d f range is) ∙ back_small w64 (d *ℤ day_micros) room) (to_z_pos w64 k (omega (arith, small)))

pub sum-fits : (text : List ℕ) (d f : ℤ) (k : ℕ) → Some d ≡ number_of_day (day_in text) → f ≡ d → k < 86_400_000_000 →
    FitsSigned w64 (to_z w64 (of_z w64 (to_z w64 (of_z w64 f) *ℤ day_micros)) +ℤ to_z w64 k)
sum-fits text d f k day is small =
    let range = day-range text d day in
    let room : unsigned_abs (d *ℤ day_micros +ℤ pos k) < 9_223_372_036_854_775_808 = omega (arith, sum-small d k range small) in
    subst (FitsSigned w64) (sym (sum-is d f k range is small)) (fits-small (d *ℤ day_micros +ℤ pos k) room)

pub total-is : (text : List ℕ) (d f : ℤ) (k : ℕ) → Some d ≡ number_of_day (day_in text) → f ≡ d → k < 86_400_000_000 →
    to_z w64 (of_z w64 (to_z w64 (of_z w64 (to_z w64 (of_z w64 f) *ℤ day_micros)) +ℤ to_z w64 k)) ≡ d *ℤ day_micros +ℤ pos k
total-is text d f k day is small =
    let range = day-range text d day in
    let room : unsigned_abs (d *ℤ day_micros +ℤ pos k) < 9_223_372_036_854_775_808 = omega (arith, sum-small d k range small) in
    ap (λ (z : ℤ). to_z w64 (of_z w64 z)) (sum-is d f k range is small) ∙ back_small w64 (d *ℤ day_micros +ℤ pos k) room

pub total-bound : (text : List ℕ) (d : ℤ) (k : ℕ) (n : ℤ) → Some d ≡ number_of_day (day_in text) → k < 86_400_000_000 → n ≡ d *ℤ day_micros +ℤ pos k →
    (neg_ℤ (pos 400_000_000_000_000_000) ≤ℤ n) × (n ≤ℤ pos 400_000_000_000_000_000)
total-bound text d k n day small is =
    let most = sum-small d k (day-range text d day) small in
    subst (λ (z : ℤ). (neg_ℤ (pos 400_000_000_000_000_000) ≤ℤ z) × (z ≤ℤ pos 400_000_000_000_000_000)) (sym is) (ends (d *ℤ day_micros +ℤ pos k) most)
  where
    ends : (z : ℤ) → unsigned_abs z ≤ 300_000_000_000_000_000 → (neg_ℤ (pos 400_000_000_000_000_000) ≤ℤ z) × (z ≤ℤ pos 400_000_000_000_000_000)
    ends z h = (omega (arith, signed_arith, one_part z, h), omega (arith, signed_arith, one_part z, h))

-- the microseconds of an offset
pub offset-bound : (z : ℤ) (minus : Bool) (h m : ℕ) → h ≤ 15 → m ≤ 59 → z ≡ signed minus ((h * 60 + m) * 60_000_000) →
    (neg_ℤ (pos 57_600_000_000) ≤ℤ to_z w64 (of_z w64 z)) × (to_z w64 (of_z w64 z) ≤ℤ pos 57_600_000_000)
offset-bound z minus h m hours minutes is =
    let size = sized minus ((h * 60 + m) * 60_000_000) (omega (arith, hours, minutes)) in
    let small : unsigned_abs (signed minus ((h * 60 + m) * 60_000_000)) < 9_223_372_036_854_775_808 = omega (arith, size) in
    subst (λ (y : ℤ). (neg_ℤ (pos 57_600_000_000) ≤ℤ y) × (y ≤ℤ pos 57_600_000_000))
    (sym (ap (λ (y : ℤ). to_z w64 (of_z w64 y)) is ∙ back_small w64 (signed minus ((h * 60 + m) * 60_000_000)) small))
    (ends (signed minus ((h * 60 + m) * 60_000_000)) size)
  where
    sized : (b : Bool) (k : ℕ) → k ≤ 57_600_000_000 → unsigned_abs (signed b k) ≤ 57_600_000_000
    sized true k le = omega (arith, signed_arith, le)
    sized false k le = le

    ends : (y : ℤ) → unsigned_abs y ≤ 57_600_000_000 → (neg_ℤ (pos 57_600_000_000) ≤ℤ y) × (y ≤ℤ pos 57_600_000_000)
    ends y le = (omega (arith, signed_arith, one_part y, le), omega (arith, signed_arith, one_part y, le))

-- a moment less an offset
pub less-is : (m o : ℤ) → (neg_ℤ (pos 400_000_000_000_000_000) ≤ℤ m) × (m ≤ℤ pos 400_000_000_000_000_000) → (neg_ℤ (pos 57_600_000_000) ≤ℤ o) × (o ≤ℤ pos 57_600_000_000) →
    to_z w64 (of_z w64 (to_z w64 (of_z w64 m) -ℤ to_z w64 (of_z w64 o))) ≡ m -ℤ o
less-is m o hm ho =
    let small-m : unsigned_abs m < 9_223_372_036_854_775_808 = omega (arith, signed_arith, one_part m, hm.0, hm.1) in
    let small-o : unsigned_abs o < 9_223_372_036_854_775_808 = omega (arith, signed_arith, one_part o, ho.0, ho.1) in
    let room : unsigned_abs (m -ℤ o) < 9_223_372_036_854_775_808 = omega (arith, signed_arith, one_part (m -ℤ o), hm.0, hm.1, ho.0, ho.1) in
    ap₂ (λ (x y : ℤ). to_z w64 (of_z w64 (x -ℤ y))) (back_small w64 m small-m) (back_small w64 o small-o) ∙ back_small w64 (m -ℤ o) room

instant-small : (n : ℤ) → is_instant n ≡ true → unsigned_abs n < 9_223_372_036_854_775_808
instant-small n range =
    let ends = at-least (neg_ℤ (pos 63_082_281_600_000_000)) n (pos 252_455_615_999_999_999) range in
    omega (arith, signed_arith, ends.0, ends.1, one_part n)

-- the instant of a timestamp's text and an offset
pub instant-read : (clock offset : List ℕ) (n : ℤ) → is_timestamp_text clock ≡ true → has_a_form offset_forms offset ≡ true →
    Some n ≡ cond (has_instant clock offset) (Some (instant clock offset)) None → Ok (to_z w64 (of_z w64 n)) ≡ instant_value clock offset
instant-read clock offset n one two is =
    let parts = kept (has_instant clock offset) (instant clock offset) n is in
    let rest = and_parts (is_moment clock) (is_offset offset && is_instant (instant clock offset)) parts.0 in
    let range = (and_parts (is_offset offset) (is_instant (instant clock offset)) rest.1).1 in
    let small = instant-small n (subst (λ (z : ℤ). is_instant z ≡ true) (sym parts.1) range) in
    ap Ok (back_small w64 n small ∙ parts.1) ∙ sym (ap₂ (λ (f r : Bool). formed f (ranged r (instant clock offset))) (and_from (is_timestamp_text clock) (has_a_form offset_forms offset) one two) parts.0)

pub instant-past : (clock offset : List ℕ) → is_timestamp_text clock ≡ true → has_a_form offset_forms offset ≡ true →
    None ≡ cond (has_instant clock offset) (Some (instant clock offset)) None → Err Range ≡ instant_value clock offset
instant-past clock offset one two is =
    let past = none (has_instant clock offset) (instant clock offset) is in
    sym (ap₂ (λ (f r : Bool). formed f (ranged r (instant clock offset))) (and_from (is_timestamp_text clock) (has_a_form offset_forms offset) one two) past)
