-- What the table answers: each is a look-up among its rows, in the table of the scale of what is looked up.
use Rattle.std.specs.Prelude.{ℕ, Bool, ◌&&◌, List, find, nat_eq, bytes_eq, option_map, option_and_then, is_some, flat_map, Option}
use Rattle.std.specs.List.{list_any}
use Rattle.pg_value.specs.declared.operators.Family.{Family}
use Rattle.pg_value.specs.declared.operators.Family.TheVariants as families
use Rattle.pg_value.specs.declared.operators.Op.{Op}
use Rattle.pg_value.specs.declared.operators.Op.TheVariants.{Lt, Le, Eq, Ge, Gt, Ne, AbsLt, AbsLe, AbsEq, AbsGe, AbsGt}
use Rattle.pg_value.specs.declared.value.SqlType.{SqlType}
use Rattle.pg_value.specs.declared.value.SqlType.TheVariants as types
use Rattle.opfamily.specs.declared.classes.Method.{Method}
use Rattle.opfamily.specs.declared.classes.Method.TheVariants.{Btree, Hash}
use Rattle.opfamily.specs.declared.classes.OpClass.{OpClass}
use Rattle.opfamily.specs.declared.classes.OpClass.TheVariants.{Int2Ops, Int4Ops, Int8Ops, TextOps, BoolOps, Int2AbsOps, Int4AbsOps, Int8AbsOps, UuidOps, DateOps, TimestampOps, TimestampTzOps, NumericOps}
use Rattle.opfamily.specs.Table.{Member, ClassRow, Row, table}

-- the names that are compared, each by its place in its own list; that of numerics is one name, whatever their scale
abbrev pub family_place : Family → ℕ
family_place families.Integer = 0
family_place families.IntAbs = 1
family_place families.Text = 2
family_place families.Bool = 3
family_place families.Uuid = 4
family_place families.Date = 5
family_place families.Timestamp = 6
family_place families.TimestampTz = 7
family_place (families.Numeric scale) = 8

-- the scale of a family of numerics; 0 of any other
abbrev pub family_scale : Family → ℕ
family_scale (families.Numeric scale) = scale
family_scale _ = 0

-- the operators: five by value, `<>`, which is in no family, and five by absolute value
abbrev pub op_place : Op → ℕ
op_place Lt = 0
op_place Le = 1
op_place Eq = 2
op_place Ge = 3
op_place Gt = 4
op_place Ne = 5
op_place AbsLt = 6
op_place AbsLe = 7
op_place AbsEq = 8
op_place AbsGe = 9
op_place AbsGt = 10

-- the types of columns by their names: int2, int4 and int8 are three, and all numerics one
abbrev pub type_place : SqlType → ℕ
type_place types.Int2 = 0
type_place types.Int4 = 1
type_place types.Int8 = 2
type_place types.Text = 3
type_place types.Bool = 4
type_place types.Uuid = 5
type_place types.Date = 6
type_place types.Timestamp = 7
type_place types.TimestampTz = 8
type_place (types.Numeric digits scale) = 9

-- the scale of a numeric type; 0 of any other
abbrev pub type_scale : SqlType → ℕ
type_scale (types.Numeric digits scale) = scale
type_scale _ = 0

-- the operator classes: those of the integer types, text and bool, those by absolute value, and the others
abbrev pub class_place : OpClass → ℕ
class_place Int2Ops = 0
class_place Int4Ops = 1
class_place Int8Ops = 2
class_place TextOps = 3
class_place BoolOps = 4
class_place Int2AbsOps = 5
class_place Int4AbsOps = 6
class_place Int8AbsOps = 7
class_place UuidOps = 8
class_place DateOps = 9
class_place TimestampOps = 10
class_place TimestampTzOps = 11
class_place (NumericOps scale) = 12

-- the scale of a class of numerics; 0 of any other
abbrev pub class_scale : OpClass → ℕ
class_scale (NumericOps scale) = scale
class_scale _ = 0

-- the access methods of indexes
abbrev pub method_place : Method → ℕ
method_place Btree = 0
method_place Hash = 1

-- two types have one name; int2, int4 and int8 are three, though one family takes them all
abbrev pub has_name : SqlType → SqlType → Bool
has_name t u = nat_eq (type_place t) (type_place u)

-- two types are one to the operators; numerics are where their scales are one, whatever their digits
abbrev pub is_type : SqlType → SqlType → Bool
is_type t u = has_name t u && nat_eq (type_scale t) (type_scale u)

-- two families are one
abbrev pub is_family : Family → Family → Bool
is_family f g = nat_eq (family_place f) (family_place g) && nat_eq (family_scale f) (family_scale g)

-- the row of a family
abbrev pub family_row : Family → Option Row
family_row f = find (λ row. nat_eq (family_place row.family) (family_place f)) (table (family_scale f))

-- the operators that a row has for a method
abbrev pub members : Method → Row → List Member
members Btree row = row.btree
members Hash row = row.hash

-- an operator among those of a family, with its strategy number (pg_amop)
abbrev pub member_of : Op → List Member → Option Member
member_of op listed = find (λ m. nat_eq (op_place m.op) (op_place op)) listed

-- the operators of a row's family take values of the type, on either side; the row is of the table of the type's scale
abbrev pub row_takes : Row → SqlType → Bool
row_takes row t = list_any (has_name t) row.types

-- the family's operators take values of the type
abbrev pub takes : Family → SqlType → Bool
takes f t = list_any (λ row. row_takes row t && is_family f row.family) (table (type_scale t))

-- the strategy that the family's row has for the operator
abbrev pub number_in : Family → Method → Op → Option ℕ
number_in f m op = option_map (λ member. member.strategy) (option_and_then (λ row. member_of op (members m row)) (family_row f))

-- the family has the operator for the two types
abbrev pub family_has : Family → Op → SqlType → SqlType → Bool
family_has f op l r = takes f l && takes f r && is_some (number_in f Btree op)

-- some family of the table has the operator for the two types; of the families of numerics none but that of the scale of a numeric takes it
abbrev pub some_family_has : Op → SqlType → SqlType → Bool
some_family_has op l r = list_any (λ row. family_has row.family op l r) (table (type_scale l))

-- `<>` exists wherever `=` does, and any other operator where some family has it for the two types
abbrev pub does_exist : Op → SqlType → SqlType → Bool
does_exist Ne l r = some_family_has Eq l r
does_exist op l r = some_family_has op l r

-- the family of a row has the operator class (pg_opclass, opcfamily)
abbrev pub has_class : Row → OpClass → Bool
has_class row c = list_any (λ listed. nat_eq (class_place listed.class) (class_place c)) row.classes

-- all classes of the table of a scale
abbrev pub classes : ℕ → List ClassRow
classes scale = flat_map (λ row. row.classes) (table scale)

-- the class of a name at a column of a type: that of numerics is of the type's scale
abbrev pub class_of_name : List ℕ → SqlType → Option OpClass
class_of_name name t = option_map (λ listed. listed.class) (find (λ listed. bytes_eq listed.name name) (classes (type_scale t)))

-- the family whose row lists a class
abbrev pub family_of : OpClass → Option Family
family_of c = option_map (λ row. row.family) (find (λ row. has_class row c) (table (class_scale c)))

-- the default family of a type
abbrev pub default_family_of : SqlType → Option Family
default_family_of t = option_map (λ row. row.family) (find (λ row. row.is_default && row_takes row t) (table (type_scale t)))

-- an operator class is there for the access method (pg_opclass, opcmethod)
abbrev pub has_method : ClassRow → Method → Bool
has_method listed m = list_any (λ n. nat_eq (method_place n) (method_place m)) listed.methods

-- a class accepts its own type, for the methods that have it
abbrev pub class_accepts : ClassRow → Method → SqlType → Bool
class_accepts listed m t = has_method listed m && is_type listed.own_type t

-- an index of the method may name the operator class for a column of the type (CREATE INDEX)
abbrev pub accepted : OpClass → Method → SqlType → Bool
accepted c m t = list_any (λ listed. nat_eq (class_place listed.class) (class_place c) && class_accepts listed m t) (classes (class_scale c))

-- the class of the type's default family that accepts it for the method
abbrev pub default_class_of : SqlType → Method → Option OpClass
default_class_of t m = option_map (λ listed. listed.class) (option_and_then (λ row. find (λ listed. has_method listed m && has_name listed.own_type t) row.classes) (find (λ row. row.is_default && row_takes row t) (table (type_scale t))))
