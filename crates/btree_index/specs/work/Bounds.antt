-- Conditions on the keys of an index, and which lists of them bound one part of it (PostgreSQL manual, chapter Indexes, Multicolumn Indexes; one fixing condition a column is own).
use Rattle.std.specs.Prelude.{◌≡◌, ℕ, ◌+◌, Bool, true, false, not, List, [], ◌∷◌, slice_index_or, is_some}
use Rattle.std.specs.List.{AllByRecursion, list_all}
use Rattle.pg_value.specs.declared.operators.Op.{Op}
use Rattle.pg_value.specs.declared.operators.Op.TheVariants.{Eq, AbsEq}
use Rattle.pg_value.specs.declared.value.Value.{Value}
use Rattle.pg_value.specs.declared.value.Value.TheVariants.{Null}
use Rattle.pg_value.specs.work.Order.{IsOfFamily}
use Rattle.pg_value.specs.Truths.{is_true, truth_of_op}
use Rattle.opfamily.specs.declared.classes.IndexKey.{IndexKey}
use Rattle.opfamily.specs.declared.classes.Method.TheVariants.{Btree}
use Rattle.opfamily.specs.Answers.{number_in}
use Rattle.opfamily.specs.KeyOrder.{key_family}
use Rattle.btree_index.specs.declared.bounds.Probe.{Probe}
use Rattle.btree_index.specs.declared.bounds.Probe.TheVariants.{Bound, IsNull, NotNull}

-- a key value is NULL, so that no comparison with it is True
abbrev pub is_null_value : Value → Bool
is_null_value Null = true
is_null_value v = false

-- the value of a key column, from 0; NULL past the end
abbrev pub key_value_at : List Value → ℕ → Value
key_value_at vs column = slice_index_or vs column Null

-- the key column that a condition is on, from 0
abbrev pub column_of : Probe → ℕ
column_of (Bound b) = b.col
column_of (IsNull c) = c
column_of (NotNull c) = c

-- key values meet a condition: the comparison is True, or the value is NULL, or it is not (SQL)
abbrev pub meets : Probe → List Value → Bool
meets (Bound b) vs = is_true (truth_of_op b.op (key_value_at vs b.col) b.value)
meets (IsNull c) vs = is_null_value (key_value_at vs c)
meets (NotNull c) vs = not (is_null_value (key_value_at vs c))

-- key values meet each condition of a list
abbrev pub meets_all : List Probe → List Value → Bool
meets_all ps vs = list_all (λ p. meets p vs) ps

-- a fixing condition leaves one value of its column: IS NULL, or an equality
abbrev pub is_equality : Op → Bool
is_equality Eq = true
is_equality AbsEq = true
is_equality op = false

-- a condition fixes its column, so that within its entries the next column is in order
abbrev pub fixes_column : Probe → Bool
fixes_column (Bound b) = is_equality b.op
fixes_column (IsNull c) = true
fixes_column (NotNull c) = false

-- a comparison's operator is one of the key's family, and its value NULL or of the kind that the family orders
abbrev pub FitsKey : IndexKey → Probe → Type 0
FitsKey k (Bound b) = (is_some (number_in (key_family k) Btree b.op) ≡ true) × IsOfFamily (key_family k) b.value
FitsKey k (IsNull c) = Unit {0}
FitsKey k (NotNull c) = Unit {0}

-- a condition is on the key column of this number, and its operator and value are of the key's family
pub record IsOn (column : ℕ) (k : IndexKey) (p : Probe) : Type 0 where
  pub column_is : column_of p ≡ column
  pub fits : FitsKey k p

-- a condition on the key column that leaves it a range: an inequality, or IS NOT NULL
pub record IsOpenOn (column : ℕ) (k : IndexKey) (p : Probe) : Type 0 where
  pub on : IsOn column k p
  pub not_fixing : fixes_column p ≡ false

-- bounds of the keys from a column on: one fixing condition of a column, and the next column follows; or any conditions of the column that do not fix it, and none follows
abbrev pub GoOn : Bool → Type 0 → Type 0 → Type 0
GoOn true next same = next
GoOn false next same = same

-- the entries that meet all bounds are one run of the index: leading columns are fixed, and only the last column
-- bounded is open
abbrev pub AreBounds : ℕ → List IndexKey → List Probe → Type 0
AreBounds column ks [] = Unit {0}
AreBounds column [] (p ∷ ps) = ⊥
AreBounds column (k ∷ ks) (p ∷ ps) = IsOn column k p × GoOn (fixes_column p) (AreBounds (column + 1) ks ps) (AllByRecursion (IsOpenOn column k) ps)
