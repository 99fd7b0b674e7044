-- Key lists: the classes by which rows are known to be sorted. Source: PostgreSQL, src/backend/optimizer/README (PathKeys).
use Rattle.std.specs.Prelude.{◌≢◌, ℕ, Bool, true, false, not, cond, ◌&&◌, ◌||◌, nat_eq, List, [], ◌∷◌, filter, filter_map, AllPairs, Option, Some, None}
use Rattle.std.specs.List.{list_any}
use Rattle.pg_base.specs.declared.numbers.IndexNo.{IndexNo}
use Rattle.catalog.specs.pg_value_operators_Family.{Family}
use Rattle.catalog.specs.opfamily_KeyOrder.{key_family}
use Rattle.catalog.specs.opfamily_classes_IndexKey.{IndexKey}
use Rattle.catalog.specs.opfamily_classes_Method.{Method}
use Rattle.catalog.specs.opfamily_classes_Method_TheVariants.{Btree, Hash}
use Rattle.catalog.specs.pg_expr_operand_ColRef.{ColRef}
use Rattle.catalog.specs.Contents.{Contents, index_at}
use Rattle.eq_classes.specs.declared.order.OrderItem.{OrderItem}
use Rattle.eq_classes.specs.Classes.{Class, class_number, in_family, plain_class}
use Rattle.eq_classes.specs.Clauses.{ClassTable, has_constant}
use Rattle.eq_classes.specs.Listing.{class_at}

-- classes by their numbers
abbrev pub Keys : Type 0
Keys = List ℕ

-- no class stands twice
abbrev pub AreDifferent : Keys → Type 0
AreDifferent keys = AllPairs (λ m n. m ≢ n) keys

-- a class of a number has a constant: all rows are equal in it, and sorting by it orders nothing (README, PathKeys)
abbrev pub is_constant : ClassTable → ℕ → Bool
is_constant t n = has_constant (class_at t.classes n)

-- the class of a column in a family
abbrev pub class_of : ClassTable → ColRef → Family → Option ℕ
class_of t x f = class_number t.classes (in_family x f)

-- the class of a column in the family of its type
abbrev pub order_class : ClassTable → ColRef → Option ℕ
order_class t x = plain_class t.classes x

-- each number that stands nowhere before it
abbrev pub once : List ℕ → List ℕ
once [] = []
once (n ∷ ns) = n ∷ filter (λ m. not (nat_eq n m)) (once ns)

-- the order keys: the classes of the ORDER BY columns, without those that have a constant or stood before
abbrev pub order_keys : ClassTable → List OrderItem → Keys
order_keys t order = once (filter (λ n. not (is_constant t n)) (filter_map (λ (item : OrderItem). order_class t item.col) order))

-- what a key column of an index adds to the keys: the list ends, the column is passed over, or it gives its class
pub data Step : Type 0 where
  ends : Step
  passes : Step
  gives : ℕ → Step

-- a direction or place of NULL, turned round for a backward scan
abbrev pub turned : Bool → Bool → Bool
turned backward b = cond backward (not b) b

-- two directions, or two places of NULL, are the same
abbrev pub is_same_direction : Bool → Bool → Bool
is_same_direction a b = cond a b (not b)

-- the key column's direction and place of NULL, both turned round for a backward scan, are the class's
abbrev pub has_direction : Bool → IndexKey → Class → Bool
has_direction backward k c = is_same_direction (turned backward k.descending) c.descending && is_same_direction (turned backward k.nulls_first) c.nulls_first

-- a column without a class ends the list; a class that has a constant or is taken is passed over; another is given where the directions are equal, else it ends the list
abbrev pub step_of : ClassTable → Bool → Keys → IndexKey → Option ℕ → Step
step_of t backward taken k None = ends
step_of t backward taken k (Some n) =
    cond (is_constant t n || list_any (nat_eq n) taken) passes (cond (has_direction backward k (class_at t.classes n)) (gives n) ends)

-- the column of a relation that a key column is
abbrev pub key_column : ℕ → IndexKey → ColRef
key_column r k = record { rel = record { 0 = r }; col = k.col }

-- the class of a key column, in the family of its operator class
abbrev pub class_of_key : ClassTable → ℕ → IndexKey → Option ℕ
class_of_key t r k = class_of t (key_column r k) (key_family k)

-- from the left over the key columns, where some classes are taken already
abbrev pub keys_from : ClassTable → ℕ → Bool → Keys → List IndexKey → Keys
keys_from t r backward taken [] = []
keys_from t r backward taken (k ∷ ks) =
    elim (step_of t backward taken k (class_of_key t r k)) [
      | ends ↦ []
      | passes ↦ keys_from t r backward taken ks
      | gives n ↦ n ∷ keys_from t r backward (n ∷ taken) ks
    ]

-- a hash index gives no order
abbrev pub keys_by : Method → ClassTable → ℕ → Bool → List IndexKey → Keys
keys_by Btree t r backward ks = keys_from t r backward [] ks
keys_by Hash t r backward ks = []

-- the keys of a scan of a relation by an index, forward or backward
abbrev pub index_keys : Contents → ClassTable → IndexNo → ℕ → Bool → Keys
index_keys c t i r backward = keys_by (index_at c i).method t r backward (index_at c i).keys

-- a key list covers another where the other is a prefix of it
abbrev pub covers : Keys → Keys → Bool
covers _ [] = true
covers [] (n ∷ ns) = false
covers (m ∷ ms) (n ∷ ns) = nat_eq m n && covers ms ns
