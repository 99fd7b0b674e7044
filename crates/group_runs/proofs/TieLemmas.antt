-- Tuples tie by items of an order exactly where the columns of these have the same values.
use Rattle.std.proofs.Common.{◌≡◌, ◌≢◌, Bool, true, false, cond, List, [], ◌∷◌, map, refl, sym, ap, ap₂, ◌∙◌, Ordering, Less, Equal, Greater}
use Rattle.std.specs.Prelude.{Option, Some, None}
use Rattle.std.specs.Cmp.{IsTotalOrder}
use Rattle.std.specs.Ordering.{is_eq, ordering_then}
use Rattle.std.proofs.lemmas.Cmp.{on_total, then_total}
use Rattle.pg_value.specs.declared.value.Value.{Value}
use Rattle.pg_value.specs.declared.value.Value.TheVariants.{Null, Int, Bool as Flag, Text as String}
use Rattle.pg_value.specs.declared.value.SqlType.{SqlType}
use Rattle.pg_value.specs.declared.value.SqlType.TheVariants.{Int2, Int4, Int8, Text as TextType, Bool as BoolType, Uuid as UuidType, Date as DateType, Timestamp as TimestampType, TimestampTz as TimestampTzType, Numeric as NumericType}
use Rattle.pg_value.specs.declared.operators.Family.{Family}
use Rattle.pg_value.specs.declared.operators.Family.TheVariants.{Integer, IntAbs, Text as TextOps, Bool as BoolOps, Uuid as UuidOps, Date as DateOps, Timestamp as TimestampOps, TimestampTz as TimestampTzOps, Numeric as NumericOps}
use Rattle.pg_value.specs.ColumnOrder.{column_order, directed}
use Rattle.pg_value.specs.Kinds.{directed_order, kind_order}
use Rattle.pg_value.specs.work.Order.{IsOfFamily}
use Rattle.pg_value.specs.Sorting.{one_after_other}
use Rattle.pg_value.specs.Types.{IsOfType}
use Rattle.pg_value.proofs.ColumnOrderLemmas.{column_total}
use Rattle.pg_value.proofs.KindLemmas.{as-columns}
use Rattle.opfamily.specs.Answers.{default_family_of}
use Rattle.catalog.specs.Range.{type_in}
use Rattle.eq_classes.specs.declared.order.OrderItem.{OrderItem}
use Rattle.eq_classes.proofs.DefaultLemmas.{no_default_abs}
use Rattle.eq_classes.proofs.SideLemmas.{default_fits, type_fits}
use Rattle.plan_laws.proofs.FitsLemmas.{values_fit}
use Rattle.sql_query.specs.Meaning.{item_order, item_order_in}
use Rattle.sql_query.specs.Queries.{Query}
use Rattle.sql_query.specs.Tuples.{Tuple, value_at}
use Rattle.sql_query.specs.WellBound.{ordered_columns}
use Rattle.sql_query.specs.Worlds.{World, IsWorld}
use Rattle.group_values.specs.Groups.{same_keys, same_value}
use Rattle.pg_value.proofs.DirectionLemmas.{equal_directed}

-- neither a direction nor a place of NULL changes which values tie
ties-anyway : (d n : Bool) (v w : Value) → is_eq (directed_order d n v w) ≡ same_value v w
ties-anyway d n Null Null = refl
ties-anyway d true Null (Int b) = refl
ties-anyway d false Null (Int b) = refl
ties-anyway d true Null (Flag b) = refl
ties-anyway d false Null (Flag b) = refl
ties-anyway d true Null (String b) = refl
ties-anyway d false Null (String b) = refl
ties-anyway d true (Int a) Null = refl
ties-anyway d false (Int a) Null = refl
ties-anyway d true (Flag a) Null = refl
ties-anyway d false (Flag a) Null = refl
ties-anyway d true (String a) Null = refl
ties-anyway d false (String a) Null = refl
ties-anyway d n (Int a) (Int b) = equal_directed d (kind_order (Int a) (Int b))
ties-anyway d n (Int a) (Flag b) = equal_directed d (kind_order (Int a) (Flag b))
ties-anyway d n (Int a) (String b) = equal_directed d (kind_order (Int a) (String b))
ties-anyway d n (Flag a) (Int b) = equal_directed d (kind_order (Flag a) (Int b))
ties-anyway d n (Flag a) (Flag b) = equal_directed d (kind_order (Flag a) (Flag b))
ties-anyway d n (Flag a) (String b) = equal_directed d (kind_order (Flag a) (String b))
ties-anyway d n (String a) (Int b) = equal_directed d (kind_order (String a) (Int b))
ties-anyway d n (String a) (Flag b) = equal_directed d (kind_order (String a) (Flag b))
ties-anyway d n (String a) (String b) = equal_directed d (kind_order (String a) (String b))

-- the default family of a type orders its values
abbrev pub family : SqlType → Family
family Int2 = Integer
family Int4 = Integer
family Int8 = Integer
family TextType = TextOps
family BoolType = BoolOps
family UuidType = UuidOps
family DateType = DateOps
family TimestampType = TimestampOps
family TimestampTzType = TimestampTzOps
family (NumericType digits scale) = NumericOps scale

pub default-is : (t : SqlType) → default_family_of t ≡ Some (family t)
default-is Int2 = refl
default-is Int4 = refl
default-is Int8 = refl
default-is TextType = refl
default-is BoolType = refl
default-is UuidType = refl
default-is DateType = refl
default-is TimestampType = refl
default-is TimestampTzType = refl
default-is (NumericType digits scale) = refl

pub not-by-magnitude : (t : SqlType) → family t ≢ IntAbs
not-by-magnitude t e = no_default_abs t (default-is t ∙ ap Some e)

pub of-family : (t : SqlType) (v : Value) → IsOfType t v → IsOfFamily (family t) v
of-family t v h = type_fits (family t) t v (default_fits t (family t) (default-is t)) h

ties-of : (t : SqlType) (d n : Bool) (v w : Value) → IsOfType t v → IsOfType t w → is_eq (column_order (family t) d n v w) ≡ same_value v w
ties-of t d n v w h k = ap is_eq (sym (as-columns (family t) d n v w (not-by-magnitude t) (of-family t v h) (of-family t w k))) ∙ ties-anyway d n v w

then-ties : (o r : Ordering) → is_eq (ordering_then o r) ≡ cond (is_eq o) (is_eq r) false
then-ties Less r = refl
then-ties Equal r = refl
then-ties Greater r = refl

module _ (w : World) (q : Query) (world : IsWorld w) where
  item-ties : (i : OrderItem) (t u : Tuple) → is_eq (item_order w q i t u) ≡ same_value (value_at w q t i.col) (value_at w q u i.col)
  item-ties i t u =
      let s = type_in w.contents q.range i.col in
      ap (λ f. is_eq (item_order_in w q i f t u)) (default-is s)
      ∙ ties-of s i.descending i.nulls_first (value_at w q t i.col) (value_at w q u i.col) (values_fit w q t world i.col) (values_fit w q u world i.col)

  pub items-tie : (is : List OrderItem) (t u : Tuple) → is_eq (one_after_other (map (item_order w q) is) t u) ≡ same_keys (map (value_at w q t) (ordered_columns is)) (map (value_at w q u) (ordered_columns is))
  items-tie [] t u = refl
  items-tie (i ∷ is) t u =
      then-ties (item_order w q i t u) (one_after_other (map (item_order w q) is) t u)
      ∙ ap₂ (λ a b. cond a b false) (item-ties i t u) (items-tie is t u)

  item-total : (i : OrderItem) (o : Option Family) → IsTotalOrder (item_order_in w q i o)
  item-total i None = record { antisymm = λ x y. refl; trans = λ x y z p r. p; congr = λ x y z p. refl }
  item-total i (Some f) = on_total (λ (t : Tuple). value_at w q t i.col) (column_total f i.descending i.nulls_first)

  pub items-total : (is : List OrderItem) → IsTotalOrder (one_after_other (map (item_order w q) is))
  items-total [] = record { antisymm = λ x y. refl; trans = λ x y z p r. p; congr = λ x y z p. refl }
  items-total (i ∷ is) = then_total (item-total i (default_family_of (type_in w.contents q.range i.col))) (items-total is)
