-- The order of a column is total.
use Rattle.std.proofs.Common.{◌≡◌, ℕ, Bool, true, false, cond, refl, sym, subst, Ordering}
use mathlib.Core.Path.{fun_ext}
use Rattle.std.specs.Cmp.{IsTotalOrder}
use Rattle.std.specs.Ordering.{on, then_cmp, flip_args, nat_cmp}
use Rattle.std.proofs.lemmas.Cmp.{on_total, then_total, back_total, nat_cmp_total, tied_itself}
use Rattle.pg_value.specs.declared.operators.Family.{Family}
use Rattle.pg_value.specs.declared.value.Value.{Value}
use Rattle.pg_value.specs.declared.value.Value.TheVariants.{Null, Int, Bool as Flag, Text as String}
use Rattle.pg_value.specs.Order.{value_order}
use Rattle.pg_value.specs.ColumnOrder.{directed, column_order}
use Rattle.pg_value.proofs.OrderLaws.{value_total}

-- NULL before or after all others
abbrev pub rank : Bool → Value → ℕ
rank nulls_first Null = cond nulls_first 0 2
rank nulls_first (Int n) = 1
rank nulls_first (Flag b) = 1
rank nulls_first (String t) = 1

abbrev pub turned : {K : Type 0} → Bool → (K → K → Ordering) → K → K → Ordering
turned b R = cond b (flip_args R) R

pub turned_total : {K : Type 0} (b : Bool) (R : K → K → Ordering) → IsTotalOrder R → IsTotalOrder (turned b R)
turned_total true R o = back_total o
turned_total false R o = o

abbrev by_rank : Family → Bool → Bool → Value → Value → Ordering
by_rank f d n = then_cmp (on (rank n) nat_cmp) (turned d (value_order f))

by_rank_total : (f : Family) (d n : Bool) → IsTotalOrder (by_rank f d n)
by_rank_total f d n = then_total (on_total (rank n) nat_cmp_total) (turned_total d (value_order f) (value_total f))

directed_is : (f : Family) (d : Bool) (v u : Value) → directed d (value_order f v u) ≡ turned d (value_order f) v u
directed_is f false v u = refl
directed_is f true v u = sym ((value_total f).antisymm u v)

column_is : (f : Family) (d n : Bool) (v u : Value) → column_order f d n v u ≡ by_rank f d n v u
column_is f d n Null Null = sym (tied_itself (by_rank_total f d n) Null)
column_is f d true Null (Int b) = refl
column_is f d true Null (Flag b) = refl
column_is f d true Null (String b) = refl
column_is f d false Null (Int b) = refl
column_is f d false Null (Flag b) = refl
column_is f d false Null (String b) = refl
column_is f d true (Int a) Null = refl
column_is f d true (Flag a) Null = refl
column_is f d true (String a) Null = refl
column_is f d false (Int a) Null = refl
column_is f d false (Flag a) Null = refl
column_is f d false (String a) Null = refl
column_is f d n (Int a) (Int b) = directed_is f d (Int a) (Int b)
column_is f d n (Int a) (Flag b) = directed_is f d (Int a) (Flag b)
column_is f d n (Int a) (String b) = directed_is f d (Int a) (String b)
column_is f d n (Flag a) (Int b) = directed_is f d (Flag a) (Int b)
column_is f d n (Flag a) (Flag b) = directed_is f d (Flag a) (Flag b)
column_is f d n (Flag a) (String b) = directed_is f d (Flag a) (String b)
column_is f d n (String a) (Int b) = directed_is f d (String a) (Int b)
column_is f d n (String a) (Flag b) = directed_is f d (String a) (Flag b)
column_is f d n (String a) (String b) = directed_is f d (String a) (String b)

pub column_total : (f : Family) (d n : Bool) → IsTotalOrder (column_order f d n)
column_total f d n = subst (λ (R : Value → Value → Ordering). IsTotalOrder R) (fun_ext (λ v. fun_ext (λ u. sym (column_is f d n v u)))) (by_rank_total f d n)
