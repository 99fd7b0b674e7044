-- Values of a family that hashes, and rows with them, are equal where they tie.
use Rattle.std.proofs.Common.{◌≡◌, ℕ, Bool, true, false, List, refl, sym, ap, ap₂, ◌∙◌, Ordering, Less, Equal, Greater}
use Rattle.std.specs.Prelude.{is_some, ℤ}
use Rattle.std.specs.Cmp.{int_ranks, ranks}
use Rattle.std.specs.Ordering.{MatchOrdering, is_eq, ordering_then, ordering_reverse, nat_cmp, int_cmp, bool_cmp}
use Rattle.std.specs.Cmp.Lexicographic.{slice_cmp}
use Rattle.std.proofs.lemmas.Bool.{false≢true}
use Rattle.std.proofs.lemmas.Map.Text.{is_eq-slice_cmp}
use Rattle.std.proofs.lemmas.Slice.Eq.{bytes_eq-Decides}
use Rattle.pg_value.specs.declared.operators.Family.{Family}
use Rattle.pg_value.specs.declared.operators.Family.TheVariants.{Integer, IntAbs, Text as TextOps, Bool as BoolOps, Uuid as UuidOps, Date as DateOps, Timestamp as TimestampOps, TimestampTz as TimestampTzOps, Numeric as NumericOps}
use Rattle.pg_value.specs.declared.operators.Op.TheVariants.{Eq}
use Rattle.pg_value.specs.declared.value.Value.{Value}
use Rattle.pg_value.specs.declared.value.Value.TheVariants.{Null, Int, Bool as Flag, Text as String}
use Rattle.pg_value.specs.work.Order.{IsOfFamily}
use Rattle.pg_value.specs.ColumnOrder.{place_of_null, directed, column_order}
use Rattle.opfamily.specs.declared.classes.IndexKey.{IndexKey}
use Rattle.opfamily.specs.declared.classes.Method.TheVariants.{Hash}
use Rattle.opfamily.specs.Answers.{number_in}
use Rattle.opfamily.specs.KeyOrder.{key_family, key_order}
use Rattle.hash_index.specs.work.Held.{Held, held_order}

from_rank : (P Q R : Type 0) (o : Ordering) → MatchOrdering o P Q R → is_eq o ≡ true → Q
from_rank P Q R Less m e = absurd (false≢true e)
from_rank P Q R Equal m e = m
from_rank P Q R Greater m e = absurd (false≢true e)

undirected : (d : Bool) (o : Ordering) → is_eq (directed d o) ≡ true → is_eq o ≡ true
undirected false o e = e
undirected true Less e = e
undirected true Equal e = e
undirected true Greater e = e

apart : {A : Type 0} (n : Bool) → is_eq (place_of_null n) ≡ true → A
apart true e = absurd (false≢true e)
apart false e = absurd (false≢true e)

apart_back : {A : Type 0} (n : Bool) → is_eq (ordering_reverse (place_of_null n)) ≡ true → A
apart_back true e = absurd (false≢true e)
apart_back false e = absurd (false≢true e)

same_flag : (a b : Bool) → is_eq (bool_cmp a b) ≡ true → a ≡ b
same_flag false false e = refl
same_flag false true e = absurd (false≢true e)
same_flag true false e = absurd (false≢true e)
same_flag true true e = refl

same_int : (d : Bool) (a b : ℤ) → is_eq (directed d (int_cmp a b)) ≡ true → Int a ≡ Int b
same_int d a b e = ap Int (from_rank _ _ _ (int_cmp a b) (int_ranks a b) (undirected d (int_cmp a b) e))

same_text : (d : Bool) (a b : List ℕ) → is_eq (directed d (slice_cmp nat_cmp a b)) ≡ true → String a ≡ String b
same_text d a b e = ap String ((bytes_eq-Decides a b).0 (sym (is_eq-slice_cmp a b) ∙ undirected d (slice_cmp nat_cmp a b) e))

same_in : (f : Family) (d n : Bool) → is_some (number_in f Hash Eq) ≡ true → (w v : Value) → IsOfFamily f w → IsOfFamily f v → is_eq (column_order f d n w v) ≡ true → w ≡ v
same_in f d n hash Null Null fw fv e = refl
same_in f d n hash Null (Int b) fw fv e = apart n e
same_in f d n hash Null (Flag b) fw fv e = apart n e
same_in f d n hash Null (String b) fw fv e = apart n e
same_in f d n hash (Int a) Null fw fv e = apart_back n e
same_in f d n hash (Flag a) Null fw fv e = apart_back n e
same_in f d n hash (String a) Null fw fv e = apart_back n e
same_in Integer d n hash (Int a) (Int b) fw fv e = same_int d a b e
same_in DateOps d n hash (Int a) (Int b) fw fv e = same_int d a b e
same_in TimestampOps d n hash (Int a) (Int b) fw fv e = same_int d a b e
same_in TimestampTzOps d n hash (Int a) (Int b) fw fv e = same_int d a b e
same_in (NumericOps scale) d n hash (Int a) (Int b) fw fv e = same_int d a b e
same_in BoolOps d n hash (Flag a) (Flag b) fw fv e = ap (λ x. Flag x) (same_flag a b (undirected d (bool_cmp a b) e))
same_in TextOps d n hash (String a) (String b) fw fv e = same_text d a b e
same_in UuidOps d n hash (String a) (String b) fw fv e = same_text d a b e
same_in IntAbs d n hash w v fw fv e = absurd (false≢true hash)
same_in Integer d n hash (Int a) (Flag b) fw fv e = absurd fv
same_in Integer d n hash (Int a) (String b) fw fv e = absurd fv
same_in Integer d n hash (Flag a) v fw fv e = absurd fw
same_in Integer d n hash (String a) v fw fv e = absurd fw
same_in DateOps d n hash (Int a) (Flag b) fw fv e = absurd fv
same_in DateOps d n hash (Int a) (String b) fw fv e = absurd fv
same_in DateOps d n hash (Flag a) v fw fv e = absurd fw
same_in DateOps d n hash (String a) v fw fv e = absurd fw
same_in TimestampOps d n hash (Int a) (Flag b) fw fv e = absurd fv
same_in TimestampOps d n hash (Int a) (String b) fw fv e = absurd fv
same_in TimestampOps d n hash (Flag a) v fw fv e = absurd fw
same_in TimestampOps d n hash (String a) v fw fv e = absurd fw
same_in TimestampTzOps d n hash (Int a) (Flag b) fw fv e = absurd fv
same_in TimestampTzOps d n hash (Int a) (String b) fw fv e = absurd fv
same_in TimestampTzOps d n hash (Flag a) v fw fv e = absurd fw
same_in TimestampTzOps d n hash (String a) v fw fv e = absurd fw
same_in (NumericOps scale) d n hash (Int a) (Flag b) fw fv e = absurd fv
same_in (NumericOps scale) d n hash (Int a) (String b) fw fv e = absurd fv
same_in (NumericOps scale) d n hash (Flag a) v fw fv e = absurd fw
same_in (NumericOps scale) d n hash (String a) v fw fv e = absurd fw
same_in BoolOps d n hash (Flag a) (Int b) fw fv e = absurd fv
same_in BoolOps d n hash (Flag a) (String b) fw fv e = absurd fv
same_in BoolOps d n hash (Int a) v fw fv e = absurd fw
same_in BoolOps d n hash (String a) v fw fv e = absurd fw
same_in TextOps d n hash (String a) (Int b) fw fv e = absurd fv
same_in TextOps d n hash (String a) (Flag b) fw fv e = absurd fv
same_in TextOps d n hash (Int a) v fw fv e = absurd fw
same_in TextOps d n hash (Flag a) v fw fv e = absurd fw
same_in UuidOps d n hash (String a) (Int b) fw fv e = absurd fv
same_in UuidOps d n hash (String a) (Flag b) fw fv e = absurd fv
same_in UuidOps d n hash (Int a) v fw fv e = absurd fw
same_in UuidOps d n hash (Flag a) v fw fv e = absurd fw

-- values that tie are equal
pub same_values : (k : IndexKey) → is_some (number_in (key_family k) Hash Eq) ≡ true → (w v : Value) → IsOfFamily (key_family k) w → IsOfFamily (key_family k) v → is_eq (key_order k w v) ≡ true → w ≡ v
same_values k hash w v fw fv e = same_in (key_family k) k.descending k.nulls_first hash w v fw fv e

both_equal : (o r : Ordering) → ordering_then o r ≡ Equal → (is_eq o ≡ true) × (is_eq r ≡ true)
both_equal Less r e = absurd (no e)
  where
    no : Less ≡ Equal → ⊥
    no e = cc
both_equal Equal r e = (refl, ap is_eq e)
both_equal Greater r e = absurd (no e)
  where
    no : Greater ≡ Equal → ⊥
    no e = cc

-- rows that tie are equal: the premise of `sorted_moved`
pub same_held : (k : IndexKey) → is_some (number_in (key_family k) Hash Eq) ≡ true → (x y : Held) → IsOfFamily (key_family k) x.value → IsOfFamily (key_family k) y.value → held_order k x y ≡ Equal → x ≡ y
same_held k hash x y fx fy e =
    let both = both_equal (key_order k x.value y.value) (nat_cmp x.row y.row) e in
    ap₂ (λ (v : Value) (n : ℕ). record { value = v; row = n }) (same_values k hash x.value y.value fx fy both.0) (from_rank _ _ _ (nat_cmp x.row y.row) (ranks x.row y.row) both.1)
