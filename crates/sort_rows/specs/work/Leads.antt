-- Numbers of 64 bits that stand for the first values of keys (PostgreSQL, src/backend/utils/sort/tuplesort.c: abbreviated
-- keys). They rise with the values in the order of a column, but different values may have the same.
use Rattle.std.specs.Prelude.{ℕ, zero, suc, ◌+◌, ◌*◌, ◌-◌, ◌^◌, min, nat_lt, cond, Bool, true, false, List, [], ◌∷◌, ℤ, pos, negsuc}
use Rattle.std.specs.Int.{w64, saturate_signed}
use Rattle.pg_value.specs.declared.operators.Family.{Family}
use Rattle.pg_value.specs.declared.operators.Family.TheVariants.{Integer, IntAbs, Text, Bool as Flags, Uuid, Date, Timestamp, TimestampTz, Numeric}
use Rattle.pg_value.specs.declared.value.Value.{Value}
use Rattle.pg_value.specs.declared.value.Value.TheVariants.{Null}
use Rattle.pg_value.specs.Order.{bytes, flag, magnitude, number}
use Rattle.opfamily.specs.KeyOrder.{first_value}
use Rattle.sort_rows.specs.declared.columns.SortColumn.{SortColumn}

-- NULL at one end of all numbers
abbrev pub absent_lead : Bool → ℤ
absent_lead true = negsuc (2 ^ 63 - 1)
absent_lead false = pos (2 ^ 63 - 1)

-- false before true
abbrev pub flag_lead : Bool → ℤ
flag_lead true = pos 1
flag_lead false = pos 0

-- the first byte of a text, 0 where there is none, and the bytes behind it; nothing is read behind a byte of 255, which no
-- UTF-8 text has
abbrev pub leading : List ℕ → ℕ
leading [] = 0
leading (b ∷ bs) = min b 255

-- the bytes of a text that its lead reads behind the first
abbrev pub later : List ℕ → List ℕ
later [] = []
later (b ∷ bs) = cond (nat_lt b 255) bs []

-- a number, followed by the first n bytes of a text as digits to the base 256
unfoldable pub text_lead : ℕ → ℕ → List ℕ → ℕ
text_lead zero m bs = m
text_lead (suc n) m bs = text_lead n (m * 256 + leading bs) (later bs)

-- the value's own number, or the nearest of 64 bits; of a text or a uuid the first seven bytes
abbrev pub family_lead : Family → Value → ℤ
family_lead Integer v = saturate_signed w64 (number v)
family_lead IntAbs v = saturate_signed w64 (pos (magnitude v))
family_lead Text v = pos (text_lead 7 0 (bytes v))
family_lead Flags v = flag_lead (flag v)
family_lead Uuid v = pos (text_lead 7 0 (bytes v))
family_lead Date v = saturate_signed w64 (number v)
family_lead Timestamp v = saturate_signed w64 (number v)
family_lead TimestampTz v = saturate_signed w64 (number v)
family_lead (Numeric scale) v = saturate_signed w64 (number v)

-- turned round where descending
abbrev pub directed_lead : Bool → ℤ → ℤ
directed_lead false n = n
directed_lead true (pos n) = negsuc n
directed_lead true (negsuc n) = pos n

-- the lead of a value in a column, by its direction and its place of NULL
abbrev pub lead_of : SortColumn → Value → ℤ
lead_of c Null = absent_lead c.nulls_first
lead_of c v = directed_lead c.descending (family_lead c.family v)

-- the lead of a key: that of its first value
abbrev pub key_lead : List SortColumn → List Value → ℤ
key_lead [] key = pos 0
key_lead (c ∷ cs) key = lead_of c (first_value key)
