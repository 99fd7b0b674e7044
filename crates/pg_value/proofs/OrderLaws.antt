-- Each family's order is total, and how operators stand to it when the sides change places.
use Rattle.std.proofs.Common.{◌≡◌, int_cmp, refl, sym, ap, ◌∙◌, Bool, true, false, cond, Ordering, Less, Equal, Greater}
use Rattle.std.specs.Prelude.{ℤ, ℕ, List}
use Rattle.std.specs.Cmp.{IsTotalOrder}
use Rattle.std.specs.Cmp.Lexicographic.{slice_cmp}
use Rattle.std.proofs.lemmas.Map.Text.{is_eq-slice_cmp}
use Rattle.std.proofs.lemmas.Slice.Eq.{bytes_eq-Decides}
use Rattle.std.specs.Ordering.{nat_cmp, bool_cmp, ordering_reverse, is_lt, is_le, is_eq, is_ge, is_gt, is_ne}
use Rattle.std.proofs.lemmas.Cmp.{ranked, int_ranked, on_total, nat_cmp_total, int_cmp_total, nat_list_cmp_total}
use Rattle.pg_value.specs.declared.operators.Family.{Family}
use Rattle.pg_value.specs.declared.operators.Family.TheVariants.{Integer, IntAbs, Text as TextOps, Bool as BoolOps, Uuid as UuidOps, Date as DateOps, Timestamp as TimestampOps, TimestampTz as TimestampTzOps, Numeric as NumericOps}
use Rattle.pg_value.specs.declared.operators.Op.{Op}
use Rattle.pg_value.specs.declared.operators.Op.TheVariants.{Lt, Le, Eq, Ge, Gt, Ne, AbsLt, AbsLe, AbsEq, AbsGe, AbsGt}
use Rattle.pg_value.specs.declared.value.Value.{Value}
use Rattle.pg_value.specs.declared.value.Value.TheVariants.{Null, Int, Bool as Flag, Text as String}
use Rattle.pg_value.specs.Order.{number, magnitude, bytes, flag, value_order}
use Rattle.pg_value.specs.Truths.{truth_of, truth_of_op, accepts, is_absolute, AreComparable, commutator_of}

bool_antisymm : (x y : Bool) → bool_cmp x y ≡ ordering_reverse (bool_cmp y x)
bool_antisymm false false = refl
bool_antisymm false true = refl
bool_antisymm true false = refl
bool_antisymm true true = refl

bool_trans : (x y z : Bool) → bool_cmp x y ≡ Less → bool_cmp y z ≡ Less → bool_cmp x z ≡ Less
bool_trans false false z p q = cc
bool_trans false true false p q = cc
bool_trans false true true p q = cc
bool_trans true false z p q = cc
bool_trans true true z p q = cc

bool_congr : (x y z : Bool) → bool_cmp x y ≡ Equal → bool_cmp x z ≡ bool_cmp y z
bool_congr false false z p = refl
bool_congr false true z p = cc
bool_congr true false z p = cc
bool_congr true true z p = refl

bool_cmp_total : IsTotalOrder bool_cmp
bool_cmp_total = record { antisymm = bool_antisymm; trans = bool_trans; congr = bool_congr }

pub value_total : (f : Family) → IsTotalOrder (value_order f)
value_total Integer = on_total number int_cmp_total
value_total IntAbs = on_total magnitude nat_cmp_total
value_total TextOps = on_total bytes nat_list_cmp_total
value_total BoolOps = on_total flag bool_cmp_total
value_total UuidOps = on_total bytes nat_list_cmp_total
value_total DateOps = on_total number int_cmp_total
value_total TimestampOps = on_total number int_cmp_total
value_total TimestampTzOps = on_total number int_cmp_total
value_total (NumericOps scale) = on_total number int_cmp_total

reversed : (f g : Ordering → Bool) → f Greater ≡ g Less → f Equal ≡ g Equal → f Less ≡ g Greater → (o : Ordering) → f (ordering_reverse o) ≡ g o
reversed f g less equal greater Less = less
reversed f g less equal greater Equal = equal
reversed f g less equal greater Greater = greater

accepts_reversed : (op : Op) (o : Ordering) → accepts (commutator_of op) (ordering_reverse o) ≡ accepts op o
accepts_reversed Lt = reversed is_gt is_lt refl refl refl
accepts_reversed Le = reversed is_ge is_le refl refl refl
accepts_reversed Eq = reversed is_eq is_eq refl refl refl
accepts_reversed Ge = reversed is_le is_ge refl refl refl
accepts_reversed Gt = reversed is_lt is_gt refl refl refl
accepts_reversed Ne = reversed is_ne is_ne refl refl refl
accepts_reversed AbsLt = reversed is_gt is_lt refl refl refl
accepts_reversed AbsLe = reversed is_ge is_le refl refl refl
accepts_reversed AbsEq = reversed is_eq is_eq refl refl refl
accepts_reversed AbsGe = reversed is_le is_ge refl refl refl
accepts_reversed AbsGt = reversed is_lt is_gt refl refl refl

pub absolute_alike : (op : Op) → is_absolute (commutator_of op) ≡ is_absolute op
absolute_alike Lt = refl
absolute_alike Le = refl
absolute_alike Eq = refl
absolute_alike Ge = refl
absolute_alike Gt = refl
absolute_alike Ne = refl
absolute_alike AbsLt = refl
absolute_alike AbsLe = refl
absolute_alike AbsEq = refl
absolute_alike AbsGe = refl
absolute_alike AbsGt = refl

exchanged_in : (op : Op) (kind : Family) (a b : Value)
    → truth_of (accepts (commutator_of op) (value_order (cond (is_absolute (commutator_of op)) IntAbs kind) b a)) ≡ truth_of (accepts op (value_order (cond (is_absolute op) IntAbs kind) a b))
exchanged_in op kind a b =
    ap (λ (x : Bool). truth_of (accepts (commutator_of op) (value_order (cond x IntAbs kind) b a))) (absolute_alike op)
    ∙ ap (λ (o : Ordering). truth_of (accepts (commutator_of op) o)) ((value_total (cond (is_absolute op) IntAbs kind)).antisymm b a)
    ∙ ap truth_of (accepts_reversed op (value_order (cond (is_absolute op) IntAbs kind) a b))

pub truth_exchanged : (op : Op) (a b : Value) → AreComparable op a b → truth_of_op (commutator_of op) b a ≡ truth_of_op op a b
truth_exchanged op Null Null h = refl
truth_exchanged op Null (Int y) h = refl
truth_exchanged op Null (Flag y) h = refl
truth_exchanged op Null (String y) h = refl
truth_exchanged op (Int x) Null h = refl
truth_exchanged op (Int x) (Int y) h = exchanged_in op Integer (Int x) (Int y)
truth_exchanged op (Int x) (Flag y) h = absurd h.2
truth_exchanged op (Int x) (String y) h = absurd h.2
truth_exchanged op (Flag x) Null h = refl
truth_exchanged op (Flag x) (Int y) h = absurd h.2
truth_exchanged op (Flag x) (Flag y) h = exchanged_in op BoolOps (Flag x) (Flag y)
truth_exchanged op (Flag x) (String y) h = absurd h.2
truth_exchanged op (String x) Null h = refl
truth_exchanged op (String x) (Int y) h = absurd h.2
truth_exchanged op (String x) (Flag y) h = absurd h.2
truth_exchanged op (String x) (String y) h = exchanged_in op TextOps (String x) (String y)

pub exchanged_at : (op other : Op) → other ≡ commutator_of op → (a b : Value) → AreComparable op a b → truth_of_op other b a ≡ truth_of_op op a b
exchanged_at op other e a b h = ap (λ (o : Op). truth_of_op o b a) e ∙ truth_exchanged op a b h

pub same_numbers : (m n : ℤ) → int_cmp m n ≡ Equal → m ≡ n
same_numbers m n h = int_ranked m n Equal (sym h)

pub same_naturals : (m n : ℕ) → nat_cmp m n ≡ Equal → m ≡ n
same_naturals m n h = ranked m n Equal (sym h)

pub same_texts : (s t : List ℕ) → slice_cmp nat_cmp s t ≡ Equal → s ≡ t
same_texts s t h = (bytes_eq-Decides s t).0 (sym (is_eq-slice_cmp s t) ∙ ap is_eq h)

pub same_flags : (p q : Bool) → bool_cmp p q ≡ Equal → p ≡ q
same_flags false false h = refl
same_flags false true h = cc
same_flags true false h = cc
same_flags true true h = refl
