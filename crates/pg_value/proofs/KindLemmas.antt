-- The order of all values is total, with each direction and place of NULL, and values that tie are the same.
use Rattle.std.proofs.Common.{◌≡◌, ◌≢◌, Bool, true, false, refl, sym, subst, ap, Ordering, Less, Equal, Greater}
use mathlib.Core.Path.{fun_ext}
use Rattle.std.specs.Cmp.{IsTotalOrder, bool_cmp_total}
use Rattle.std.specs.Cmp.Lexicographic.{slice_cmp}
use Rattle.std.specs.Ordering.{on, then_cmp, nat_cmp, int_cmp, bool_cmp, ordering_then}
use Rattle.std.proofs.lemmas.Cmp.{on_total, then_total, nat_cmp_total, int_cmp_total, nat_list_cmp_total, tied_itself}
use Rattle.pg_value.specs.declared.value.Value.{Value}
use Rattle.pg_value.specs.declared.value.Value.TheVariants.{Null, Int, Bool as Flag, Text as String}
use Rattle.pg_value.specs.declared.operators.Family.{Family}
use Rattle.pg_value.specs.declared.operators.Family.TheVariants.{Integer, IntAbs, Text as TextOps, Bool as BoolOps, Uuid as UuidOps, Date as DateOps, Timestamp as TimestampOps, TimestampTz as TimestampTzOps, Numeric as NumericOps}
use Rattle.pg_value.specs.Order.{bytes, flag, number}
use Rattle.pg_value.specs.work.Order.{IsOfFamily}
use Rattle.pg_value.specs.ColumnOrder.{column_order, directed}
use Rattle.pg_value.proofs.OrderLaws.{same_flags, same_numbers, same_texts}
use Rattle.pg_value.proofs.ColumnOrderLemmas.{rank, turned, turned_total}
use Rattle.pg_value.specs.Kinds.{directed_order, kind_order, kind_place}

-- by kind, then by what a value holds of each kind
abbrev by_parts : Value → Value → Ordering
by_parts = then_cmp (on kind_place nat_cmp) (then_cmp (on number int_cmp) (then_cmp (on flag bool_cmp) (on bytes (slice_cmp nat_cmp))))

by_parts_total : IsTotalOrder by_parts
by_parts_total = then_total (on_total kind_place nat_cmp_total) (then_total (on_total number int_cmp_total) (then_total (on_total flag bool_cmp_total) (on_total bytes nat_list_cmp_total)))

then-equal : (o : Ordering) → o ≡ ordering_then o Equal
then-equal Less = refl
then-equal Equal = refl
then-equal Greater = refl

kind_is : (v w : Value) → kind_order v w ≡ by_parts v w
kind_is Null Null = refl
kind_is Null (Int b) = refl
kind_is Null (Flag b) = refl
kind_is Null (String b) = refl
kind_is (Int a) Null = refl
kind_is (Int a) (Int b) = then-equal (int_cmp a b)
kind_is (Int a) (Flag b) = refl
kind_is (Int a) (String b) = refl
kind_is (Flag a) Null = refl
kind_is (Flag a) (Int b) = refl
kind_is (Flag a) (Flag b) = then-equal (bool_cmp a b)
kind_is (Flag a) (String b) = refl
kind_is (String a) Null = refl
kind_is (String a) (Int b) = refl
kind_is (String a) (Flag b) = refl
kind_is (String a) (String b) = refl

pub kind_total : IsTotalOrder kind_order
kind_total = subst (λ (R : Value → Value → Ordering). IsTotalOrder R) (fun_ext (λ v. fun_ext (λ w. sym (kind_is v w)))) by_parts_total

abbrev by_rank : Bool → Bool → Value → Value → Ordering
by_rank d n = then_cmp (on (rank n) nat_cmp) (turned d kind_order)

by_rank_total : (d n : Bool) → IsTotalOrder (by_rank d n)
by_rank_total d n = then_total (on_total (rank n) nat_cmp_total) (turned_total d kind_order kind_total)

turned_is : (d : Bool) (v w : Value) → directed d (kind_order v w) ≡ turned d kind_order v w
turned_is false v w = refl
turned_is true v w = sym (kind_total.antisymm w v)

directed_is : (d n : Bool) (v w : Value) → directed_order d n v w ≡ by_rank d n v w
directed_is d n Null Null = sym (tied_itself (by_rank_total d n) Null)
directed_is d true Null (Int b) = refl
directed_is d true Null (Flag b) = refl
directed_is d true Null (String b) = refl
directed_is d false Null (Int b) = refl
directed_is d false Null (Flag b) = refl
directed_is d false Null (String b) = refl
directed_is d true (Int a) Null = refl
directed_is d true (Flag a) Null = refl
directed_is d true (String a) Null = refl
directed_is d false (Int a) Null = refl
directed_is d false (Flag a) Null = refl
directed_is d false (String a) Null = refl
directed_is d n (Int a) (Int b) = turned_is d (Int a) (Int b)
directed_is d n (Int a) (Flag b) = turned_is d (Int a) (Flag b)
directed_is d n (Int a) (String b) = turned_is d (Int a) (String b)
directed_is d n (Flag a) (Int b) = turned_is d (Flag a) (Int b)
directed_is d n (Flag a) (Flag b) = turned_is d (Flag a) (Flag b)
directed_is d n (Flag a) (String b) = turned_is d (Flag a) (String b)
directed_is d n (String a) (Int b) = turned_is d (String a) (Int b)
directed_is d n (String a) (Flag b) = turned_is d (String a) (Flag b)
directed_is d n (String a) (String b) = turned_is d (String a) (String b)

pub directed_total : (d n : Bool) → IsTotalOrder (directed_order d n)
directed_total d n = subst (λ (R : Value → Value → Ordering). IsTotalOrder R) (fun_ext (λ v. fun_ext (λ w. sym (directed_is d n v w)))) (by_rank_total d n)

-- values that tie are of one kind, and the same
pub tied-same : (v w : Value) → kind_order v w ≡ Equal → v ≡ w
tied-same Null Null e = refl
tied-same Null (Int b) e = cc e
tied-same Null (Flag b) e = cc e
tied-same Null (String b) e = cc e
tied-same (Int a) Null e = cc e
tied-same (Int a) (Int b) e = ap Int (same_numbers a b e)
tied-same (Int a) (Flag b) e = cc e
tied-same (Int a) (String b) e = cc e
tied-same (Flag a) Null e = cc e
tied-same (Flag a) (Int b) e = cc e
tied-same (Flag a) (Flag b) e = ap Flag (same_flags a b e)
tied-same (Flag a) (String b) e = cc e
tied-same (String a) Null e = cc e
tied-same (String a) (Int b) e = cc e
tied-same (String a) (Flag b) e = cc e
tied-same (String a) (String b) e = ap String (same_texts a b e)

-- on values of one type the order of all values is that of a column in the type's default family
pub as-columns : (f : Family) (d n : Bool) (v w : Value) → f ≢ IntAbs → IsOfFamily f v → IsOfFamily f w → directed_order d n v w ≡ column_order f d n v w
as-columns IntAbs d n v w ne h k = absurd (ne refl)
as-columns f d n Null Null ne h k = refl
as-columns f d n Null (Int b) ne h k = refl
as-columns f d n Null (Flag b) ne h k = refl
as-columns f d n Null (String b) ne h k = refl
as-columns f d n (Int a) Null ne h k = refl
as-columns f d n (Flag a) Null ne h k = refl
as-columns f d n (String a) Null ne h k = refl
as-columns Integer d n (Int a) (Int b) ne h k = refl
as-columns Integer d n (Int a) (Flag b) ne h k = absurd k
as-columns Integer d n (Int a) (String b) ne h k = absurd k
as-columns Integer d n (Flag a) w ne h k = absurd h
as-columns Integer d n (String a) w ne h k = absurd h
as-columns TextOps d n (String a) (String b) ne h k = refl
as-columns TextOps d n (String a) (Int b) ne h k = absurd k
as-columns TextOps d n (String a) (Flag b) ne h k = absurd k
as-columns TextOps d n (Int a) w ne h k = absurd h
as-columns TextOps d n (Flag a) w ne h k = absurd h
as-columns BoolOps d n (Flag a) (Flag b) ne h k = refl
as-columns BoolOps d n (Flag a) (Int b) ne h k = absurd k
as-columns BoolOps d n (Flag a) (String b) ne h k = absurd k
as-columns BoolOps d n (Int a) w ne h k = absurd h
as-columns BoolOps d n (String a) w ne h k = absurd h
as-columns UuidOps d n (String a) (String b) ne h k = refl
as-columns UuidOps d n (String a) (Int b) ne h k = absurd k
as-columns UuidOps d n (String a) (Flag b) ne h k = absurd k
as-columns UuidOps d n (Int a) w ne h k = absurd h
as-columns UuidOps d n (Flag a) w ne h k = absurd h
as-columns DateOps d n (Int a) (Int b) ne h k = refl
as-columns DateOps d n (Int a) (Flag b) ne h k = absurd k
as-columns DateOps d n (Int a) (String b) ne h k = absurd k
as-columns DateOps d n (Flag a) w ne h k = absurd h
as-columns DateOps d n (String a) w ne h k = absurd h
as-columns TimestampOps d n (Int a) (Int b) ne h k = refl
as-columns TimestampOps d n (Int a) (Flag b) ne h k = absurd k
as-columns TimestampOps d n (Int a) (String b) ne h k = absurd k
as-columns TimestampOps d n (Flag a) w ne h k = absurd h
as-columns TimestampOps d n (String a) w ne h k = absurd h
as-columns TimestampTzOps d n (Int a) (Int b) ne h k = refl
as-columns TimestampTzOps d n (Int a) (Flag b) ne h k = absurd k
as-columns TimestampTzOps d n (Int a) (String b) ne h k = absurd k
as-columns TimestampTzOps d n (Flag a) w ne h k = absurd h
as-columns TimestampTzOps d n (String a) w ne h k = absurd h
as-columns (NumericOps scale) d n (Int a) (Int b) ne h k = refl
as-columns (NumericOps scale) d n (Int a) (Flag b) ne h k = absurd k
as-columns (NumericOps scale) d n (Int a) (String b) ne h k = absurd k
as-columns (NumericOps scale) d n (Flag a) w ne h k = absurd h
as-columns (NumericOps scale) d n (String a) w ne h k = absurd h
