-- Working words beside those of `Answers`.
use Rattle.std.specs.Prelude.{ℕ, Bool, true, false, ◌&&◌, List, [], ◌∷◌, bytes_eq, find, flat_map, nat_eq, option_map, Option, None}
use Rattle.std.specs.List.{list_any}
use Rattle.pg_value.specs.declared.operators.Family.{Family}
use Rattle.pg_value.specs.declared.operators.Op.{Op}
use Rattle.pg_value.specs.declared.value.SqlType.{SqlType}
use Rattle.opfamily.specs.declared.classes.Method.{Method}
use Rattle.opfamily.specs.declared.classes.OpClass.{OpClass}
use Rattle.opfamily.specs.Table.{ClassRow, bool_ops, date_ops, int_abs_ops, integer_ops, numeric_ops, text_ops, timestamp_ops, timestamptz_ops, uuid_ops}
use Rattle.opfamily.specs.Answers.{class_place, class_scale, classes, has_method, is_type, number_in, takes}

-- a strategy number where a test holds, else none
abbrev pub when : Bool → Option ℕ → Option ℕ
when true o = o
when false o = None

-- the strategy of an operator over two types in a family
abbrev pub strategy_of : Family → Method → Op → SqlType → SqlType → Option ℕ
strategy_of f m op l r = when (takes f l && takes f r) (number_in f m op)

-- an operator class is there for an access method (pg_opclass, opcmethod)
abbrev pub is_for : OpClass → Method → Bool
is_for c m = list_any (λ listed. nat_eq (class_place listed.class) (class_place c) && has_method listed m) (classes (class_scale c))

-- a type is that of the columns for which an operator class is (pg_opclass, opcintype)
abbrev pub is_own : OpClass → SqlType → Bool
is_own c t = list_any (λ listed. nat_eq (class_place listed.class) (class_place c) && is_type listed.own_type t) (classes (class_scale c))

-- the class of a name among some classes
abbrev pub class_among : List ℕ → List ClassRow → Option OpClass
class_among name listed = option_map (λ c. c.class) (find (λ c. bytes_eq c.name name) listed)

-- the first classes of each table: of whole numbers, texts and truth values
abbrev pub plain_classes : List ClassRow
plain_classes = flat_map (λ row. row.classes) (integer_ops ∷ text_ops ∷ bool_ops ∷ int_abs_ops ∷ [])

-- the last classes in the table of a scale: of uuids, dates, timestamps and numerics
abbrev pub further_classes : ℕ → List ClassRow
further_classes scale = flat_map (λ row. row.classes) (uuid_ops ∷ date_ops ∷ timestamp_ops ∷ timestamptz_ops ∷ numeric_ops scale ∷ [])
