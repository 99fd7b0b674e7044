-- Where the leads of two values of a column differ, the values stand to one another as they do.
use Rattle.std.proofs.Common.{◌≡◌, ℕ, zero, suc, ◌+◌, ◌*◌, ◌^◌, ◌-◌, ◌<◌, ◌≤◌, min, cond, Bool, true, false, List, [], ◌∷◌, ℤ, pos, negsuc, refl, sym, ap, ap₂, ◌∙◌, ⊎_elim, arith, Ordering, Less, Equal, Greater}
use Rattle.std.specs.Prelude.{◌<ℤ◌, ◌≤ℤ◌}
use Rattle.std.specs.Cmp.{int_cmp_is, nat_cmp_is}
use Rattle.std.specs.Cmp.Lexicographic.{slice_cmp}
use Rattle.std.specs.Int.{w64, saturate_signed}
use Rattle.std.specs.Ordering.{bool_cmp, int_cmp, nat_cmp, ordering_reverse, ordering_then}
use Rattle.std.proofs.lemmas.Bool.{cases_lt, lt-ltb, le-ltb}
use Rattle.std.proofs.lemmas.Cmp.{int_cmp_total, int_ranked}
use Rattle.std.proofs.lemmas.Int.{ints}
use Rattle.pg_value.specs.declared.operators.Family.{Family}
use Rattle.pg_value.specs.declared.operators.Family.TheVariants.{Integer, IntAbs, Text, Bool as Flags, Uuid, Date, Timestamp, TimestampTz, Numeric}
use Rattle.pg_value.specs.declared.value.Value.{Value}
use Rattle.pg_value.specs.declared.value.Value.TheVariants.{Null, Int, Bool as Flag, Text as String}
use Rattle.pg_value.specs.ColumnOrder.{directed}
use Rattle.pg_value.specs.Order.{bytes, flag, magnitude, number, value_order}
use Rattle.pg_value.proofs.ColumnOrderLemmas.{column_total}
use Rattle.pg_value.proofs.OrderLaws.{value_total}
use Rattle.opfamily.specs.KeyOrder.{first_value, later_values}
use Rattle.sort_rows.specs.declared.columns.SortColumn.{SortColumn}
use Rattle.sort_rows.specs.work.Columns.{columns_order, values_order}
use Rattle.sort_rows.specs.work.Leads.{absent_lead, directed_lead, family_lead, flag_lead, key_lead, later, lead_of, leading, text_lead}

below : (a b : ℤ) → int_cmp a b ≡ Less → a <ℤ b
below a b is = int_ranked a b Less (sym is)

less : (a b : ℤ) → a <ℤ b → int_cmp a b ≡ Less
less a b lt = sym (int_cmp_is a b Less lt)

-- the nearest numbers of 64 bits
saturated : (a b : ℤ) → saturate_signed w64 a <ℤ saturate_signed w64 b → a <ℤ b
saturated (pos m) (pos n) lt = omega (arith, ints, lt)
saturated (pos m) (negsuc n) lt = omega (arith, ints, lt)
saturated (negsuc m) (pos n) lt = omega (arith, ints)
saturated (negsuc m) (negsuc n) lt = omega (arith, ints, lt)

magnitudes : (m n : ℕ) → pos m <ℤ pos n → nat_cmp m n ≡ Less
magnitudes m n lt = sym (nat_cmp_is m n Less (omega (arith, ints, lt)))

flags : (a b : Bool) → int_cmp (flag_lead a) (flag_lead b) ≡ Less → bool_cmp a b ≡ Less
flags true true is = cc
flags true false is = cc
flags false true is = refl
flags false false is = cc

-- the first bytes of texts
pub leading_low : (s : List ℕ) → leading s ≤ 255
leading_low [] = omega arith
leading_low (b ∷ bs) = omega arith

pub lead_step : (n m : ℕ) (s : List ℕ) → text_lead (suc n) m s ≡ text_lead n (m * 256 + leading s) (later s)
unfolding text_lead
lead_step n m s = refl

pub lead_end : (m : ℕ) (s : List ℕ) → text_lead 0 m s ≡ m
unfolding text_lead
lead_end m s = refl

-- the number before them counts most
pub greater : (n a b : ℕ) (s t : List ℕ) → a < b → text_lead n a s < text_lead n b t
unfolding text_lead
greater zero a b s t lt = lt
greater (suc n) a b s t lt = greater n (a * 256 + leading s) (b * 256 + leading t) (later s) (later t) (omega (arith, lt, leading_low s))

least : (n a b : ℕ) (s : List ℕ) → a ≤ b → text_lead n a [] ≤ text_lead n b s
unfolding text_lead
least zero a b s le = le
least (suc n) a b s le = least n (a * 256 + 0) (b * 256 + leading s) (later s) (omega (arith, le))

pub grows : (n a : ℕ) (s : List ℕ) → a ≤ text_lead n a s
unfolding text_lead
grows zero a s = omega arith
grows (suc n) a s = omega (arith, grows n (a * 256 + leading s) (later s))

whole : text_lead 7 1 [] ≡ 2 ^ 56
unfolding text_lead
whole = refl

pub lead_fits : (s : List ℕ) → text_lead 7 0 s < 2 ^ 56
lead_fits s = omega (arith, greater 7 0 1 s [] (omega arith), whole)

later_low : (b : ℕ) (bs : List ℕ) → b < 255 → later (b ∷ bs) ≡ bs
later_low b bs lt = ap (λ (c : Bool). cond c bs []) (lt-ltb b 255 lt)

later_high : (b : ℕ) (bs : List ℕ) → 255 ≤ b → later (b ∷ bs) ≡ []
later_high b bs le = ap (λ (c : Bool). cond c bs []) (le-ltb b 255 le)

texts_less : (n m : ℕ) (s t : List ℕ) → text_lead n m s < text_lead n m t → slice_cmp nat_cmp s t ≡ Less
unfolding text_lead
texts_less zero m s t lt = absurd (omega (arith, lt))
texts_less (suc n) m [] [] lt = absurd (omega (arith, lt))
texts_less (suc n) m [] (y ∷ t) lt = refl
texts_less (suc n) m (x ∷ s) [] lt = absurd (omega (arith, lt, least n (m * 256 + 0) (m * 256 + min x 255) (later (x ∷ s)) (omega arith)))
texts_less (suc n) m (x ∷ s) (y ∷ t) lt = ⊎_elim
    (λ (less : x < y). ap (λ o. ordering_then o (slice_cmp nat_cmp s t)) (sym (nat_cmp_is x y Less less)))
    (λ (le : y ≤ x). ⊎_elim
    (λ (more : y < x). absurd (not_more more))
    (λ (ge : x ≤ y). let same : x ≡ y = omega arith in ap (λ o. ordering_then o (slice_cmp nat_cmp s t)) (sym (nat_cmp_is x y Equal same)) ∙ tie same (λ below. texts_less n (m * 256 + min y 255) s t below))
    (cases_lt y x))
    (cases_lt x y) where
      not_more : y < x → ⊥
      not_more more = ⊎_elim
          (λ (low : y < 255). omega (arith, lt, greater n (m * 256 + min y 255) (m * 256 + min x 255) (later (y ∷ t)) (later (x ∷ s)) (omega (arith, low, more))))
          (λ (high : 255 ≤ y).
          let digits : m * 256 + min x 255 ≡ m * 256 + min y 255 = omega (arith, high, more) in
          let all : text_lead n (m * 256 + min x 255) (later (x ∷ s)) ≡ text_lead n (m * 256 + min y 255) (later (y ∷ t)) =
          ap₂ (text_lead n) digits (later_high x s (omega (arith, high, more)) ∙ sym (later_high y t high)) in
          omega (arith, lt, all))
          (cases_lt y 255)

      tie : x ≡ y → (text_lead n (m * 256 + min y 255) s < text_lead n (m * 256 + min y 255) t → slice_cmp nat_cmp s t ≡ Less) → slice_cmp nat_cmp s t ≡ Less
      tie same rest = ⊎_elim
          (λ (low : y < 255).
          let left : text_lead n (m * 256 + min x 255) (later (x ∷ s)) ≡ text_lead n (m * 256 + min y 255) s = ap₂ (text_lead n) (ap (λ k. m * 256 + min k 255) same) (later_low x s (omega (arith, same, low))) in
          let right : text_lead n (m * 256 + min y 255) (later (y ∷ t)) ≡ text_lead n (m * 256 + min y 255) t = ap (text_lead n (m * 256 + min y 255)) (later_low y t low) in
          rest (omega (arith, lt, left, right)))
          (λ (high : 255 ≤ y).
          let all : text_lead n (m * 256 + min x 255) (later (x ∷ s)) ≡ text_lead n (m * 256 + min y 255) (later (y ∷ t)) =
          ap₂ (text_lead n) (ap (λ k. m * 256 + min k 255) same) (later_high x s (omega (arith, high, same)) ∙ sym (later_high y t high)) in
          absurd (omega (arith, lt, all)))
          (cases_lt y 255)

numbers_less : (v w : Value) → int_cmp (saturate_signed w64 (number v)) (saturate_signed w64 (number w)) ≡ Less → int_cmp (number v) (number w) ≡ Less
numbers_less v w is = less (number v) (number w) (saturated (number v) (number w) (below _ _ is))

bytes_less : (v w : Value) → int_cmp (pos (text_lead 7 0 (bytes v))) (pos (text_lead 7 0 (bytes w))) ≡ Less → slice_cmp nat_cmp (bytes v) (bytes w) ≡ Less
bytes_less v w is = texts_less 7 0 (bytes v) (bytes w) (let lt : pos (text_lead 7 0 (bytes v)) <ℤ pos (text_lead 7 0 (bytes w)) = below _ _ is in omega (arith, ints, lt))

family_less : (f : Family) (v w : Value) → int_cmp (family_lead f v) (family_lead f w) ≡ Less → value_order f v w ≡ Less
family_less Integer v w is = numbers_less v w is
family_less IntAbs v w is = magnitudes (magnitude v) (magnitude w) (saturated (pos (magnitude v)) (pos (magnitude w)) (below _ _ is))
family_less Text v w is = bytes_less v w is
family_less Flags v w is = flags (flag v) (flag w) is
family_less Uuid v w is = bytes_less v w is
family_less Date v w is = numbers_less v w is
family_less Timestamp v w is = numbers_less v w is
family_less TimestampTz v w is = numbers_less v w is
family_less (Numeric scale) v w is = numbers_less v w is

-- turned round
turned : (a b : ℤ) → directed_lead true a <ℤ directed_lead true b → b <ℤ a
turned (pos m) (pos n) lt = omega (arith, ints, lt)
turned (pos m) (negsuc n) lt = omega (arith, ints)
turned (negsuc m) (pos n) lt = omega (arith, ints, lt)
turned (negsuc m) (negsuc n) lt = omega (arith, ints, lt)

told : (f : Family) (d : Bool) (v w : Value) → int_cmp (directed_lead d (family_lead f v)) (directed_lead d (family_lead f w)) ≡ Less → directed d (value_order f v w) ≡ Less
told f false v w is = family_less f v w is
told f true v w is =
    sym ((value_total f).antisymm w v)
    ∙ family_less f w v (less (family_lead f w) (family_lead f v) (turned (family_lead f v) (family_lead f w) (below _ _ is)))

-- all are of 64 bits
record Fits (z : ℤ) : Type 0 where
  low : negsuc (2 ^ 63 - 1) ≤ℤ z
  high : z ≤ℤ pos (2 ^ 63 - 1)

saturated_fits : (z : ℤ) → Fits (saturate_signed w64 z)
saturated_fits (pos n) = record { low = omega (arith, ints); high = omega (arith, ints) }
saturated_fits (negsuc n) = record { low = omega (arith, ints); high = omega (arith, ints) }

flag_fits : (b : Bool) → Fits (flag_lead b)
flag_fits true = record { low = omega (arith, ints); high = omega (arith, ints) }
flag_fits false = record { low = omega (arith, ints); high = omega (arith, ints) }

text_fits : (bs : List ℕ) → Fits (pos (text_lead 7 0 bs))
text_fits bs = record { low = omega (arith, ints); high = omega (arith, ints, lead_fits bs) }

family_fits : (f : Family) (v : Value) → Fits (family_lead f v)
family_fits Integer v = saturated_fits (number v)
family_fits IntAbs v = saturated_fits (pos (magnitude v))
family_fits Text v = text_fits (bytes v)
family_fits Flags v = flag_fits (flag v)
family_fits Uuid v = text_fits (bytes v)
family_fits Date v = saturated_fits (number v)
family_fits Timestamp v = saturated_fits (number v)
family_fits TimestampTz v = saturated_fits (number v)
family_fits (Numeric scale) v = saturated_fits (number v)

turned_fits : (z : ℤ) → Fits z → Fits (directed_lead true z)
turned_fits (pos n) fits = record { low = omega (arith, ints, fits.high); high = omega (arith, ints) }
turned_fits (negsuc n) fits = record { low = omega (arith, ints); high = omega (arith, ints, fits.low) }

directed_fits : (d : Bool) (z : ℤ) → Fits z → Fits (directed_lead d z)
directed_fits false z fits = fits
directed_fits true z fits = turned_fits z fits

-- NULL at one end
module _ (f : Family) (d : Bool) (v : Value) where
  fits : Fits (directed_lead d (family_lead f v))
  fits = directed_fits d (family_lead f v) (family_fits f v)

  after_last : int_cmp (absent_lead false) (directed_lead d (family_lead f v)) ≡ Less → ⊥
  after_last is = let lt : pos (2 ^ 63 - 1) <ℤ directed_lead d (family_lead f v) = below _ _ is in omega (arith, ints, lt, fits.high)

  before_first : int_cmp (directed_lead d (family_lead f v)) (absent_lead true) ≡ Less → ⊥
  before_first is = let lt : directed_lead d (family_lead f v) <ℤ negsuc (2 ^ 63 - 1) = below _ _ is in omega (arith, ints, lt, fits.low)

  null_less : (n : Bool) → int_cmp (absent_lead n) (directed_lead d (family_lead f v)) ≡ Less → n ≡ true
  null_less true is = refl
  null_less false is = absurd (after_last is)

  less_null : (n : Bool) → int_cmp (directed_lead d (family_lead f v)) (absent_lead n) ≡ Less → n ≡ false
  less_null true is = absurd (before_first is)
  less_null false is = refl

same_absent : (n : Bool) → int_cmp (absent_lead n) (absent_lead n) ≡ Less → ⊥
same_absent n is = let lt : absent_lead n <ℤ absent_lead n = below _ _ is in omega (arith, ints, lt)

values_less : (c : SortColumn) (v w : Value) → int_cmp (lead_of c v) (lead_of c w) ≡ Less → values_order c v w ≡ Less
values_less c Null Null is = absurd (same_absent c.nulls_first is)
values_less c Null (Int b) is = rw (null_less c.family c.descending (Int b) c.nulls_first is) refl
values_less c Null (Flag b) is = rw (null_less c.family c.descending (Flag b) c.nulls_first is) refl
values_less c Null (String b) is = rw (null_less c.family c.descending (String b) c.nulls_first is) refl
values_less c (Int a) Null is = rw (less_null c.family c.descending (Int a) c.nulls_first is) refl
values_less c (Flag a) Null is = rw (less_null c.family c.descending (Flag a) c.nulls_first is) refl
values_less c (String a) Null is = rw (less_null c.family c.descending (String a) c.nulls_first is) refl
values_less c (Int a) (Int b) is = told c.family c.descending (Int a) (Int b) is
values_less c (Int a) (Flag b) is = told c.family c.descending (Int a) (Flag b) is
values_less c (Int a) (String b) is = told c.family c.descending (Int a) (String b) is
values_less c (Flag a) (Int b) is = told c.family c.descending (Flag a) (Int b) is
values_less c (Flag a) (Flag b) is = told c.family c.descending (Flag a) (Flag b) is
values_less c (Flag a) (String b) is = told c.family c.descending (Flag a) (String b) is
values_less c (String a) (Int b) is = told c.family c.descending (String a) (Int b) is
values_less c (String a) (Flag b) is = told c.family c.descending (String a) (Flag b) is
values_less c (String a) (String b) is = told c.family c.descending (String a) (String b) is

values_greater : (c : SortColumn) (v w : Value) → int_cmp (lead_of c v) (lead_of c w) ≡ Greater → values_order c v w ≡ Greater
values_greater c v w is =
    (column_total c.family c.descending c.nulls_first).antisymm v w
    ∙ ap ordering_reverse (values_less c w v (int_cmp_total.antisymm (lead_of c w) (lead_of c v) ∙ ap ordering_reverse is))

-- the leads of two values may be asked before the values
asked_first : (c : SortColumn) (v w : Value) (rest o : Ordering) → int_cmp (lead_of c v) (lead_of c w) ≡ o → ordering_then o (ordering_then (values_order c v w) rest) ≡ ordering_then (values_order c v w) rest
asked_first c v w rest Less is = sym (ap (λ p. ordering_then p rest) (values_less c v w is))
asked_first c v w rest Equal is = refl
asked_first c v w rest Greater is = sym (ap (λ p. ordering_then p rest) (values_greater c v w is))

pub leads_first : (cs : List SortColumn) (a b : List Value) → ordering_then (int_cmp (key_lead cs a) (key_lead cs b)) (columns_order cs a b) ≡ columns_order cs a b
leads_first [] a b = refl
leads_first (c ∷ cs) a b = asked_first c (first_value a) (first_value b) (columns_order cs (later_values a) (later_values b)) (int_cmp (lead_of c (first_value a)) (lead_of c (first_value b))) refl
