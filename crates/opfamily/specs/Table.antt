-- The table of operator families (PostgreSQL manual, chapter Indexes, Operator Classes and Operator Families; int_abs_ops is own).
use Rattle.std.specs.Prelude.{ℕ, Bool, true, false, List, [], ◌∷◌, codes}
use Rattle.pg_value.specs.declared.operators.Family.{Family}
use Rattle.pg_value.specs.declared.operators.Family.TheVariants as families
use Rattle.pg_value.specs.declared.operators.Op.{Op}
use Rattle.pg_value.specs.declared.operators.Op.TheVariants.{Lt, Le, Eq, Ge, Gt, AbsLt, AbsLe, AbsEq, AbsGe, AbsGt}
use Rattle.pg_value.specs.declared.value.SqlType.{SqlType}
use Rattle.pg_value.specs.declared.value.SqlType.TheVariants as types
use Rattle.opfamily.specs.declared.classes.Method.{Method}
use Rattle.opfamily.specs.declared.classes.Method.TheVariants.{Btree, Hash}
use Rattle.opfamily.specs.declared.classes.OpClass.{OpClass}
use Rattle.opfamily.specs.declared.classes.OpClass.TheVariants.{Int2Ops, Int4Ops, Int8Ops, TextOps, BoolOps, Int2AbsOps, Int4AbsOps, Int8AbsOps, UuidOps, DateOps, TimestampOps, TimestampTzOps, NumericOps}

-- an operator of a family, with its strategy
pub record Member : Type 0 where
  pub op : Op
  pub strategy : ℕ

-- an operator class: its name, the one type that it accepts, and the access methods that have it
pub record ClassRow : Type 0 where
  pub class : OpClass
  pub name : List ℕ
  pub own_type : SqlType
  pub methods : List Method

-- a family: whether it is the default one of its types, the types that its operators take in any pairing, its operators by method, its classes
pub record Row : Type 0 where
  pub family : Family
  pub is_default : Bool
  pub types : List SqlType
  pub btree : List Member
  pub hash : List Member
  pub classes : List ClassRow

-- an operator with its strategy number in a family
abbrev pub member : Op → ℕ → Member
member op strategy = record { op = op; strategy = strategy }

-- an operator class with its name, its type and its access methods
abbrev pub class : OpClass → List ℕ → SqlType → List Method → ClassRow
class c name own_type methods = record { class = c; name = name; own_type = own_type; methods = methods }

-- < <= = >= > with strategies 1 to 5
abbrev pub ordering_operators : List Member
ordering_operators = member Lt 1 ∷ member Le 2 ∷ member Eq 3 ∷ member Ge 4 ∷ member Gt 5 ∷ []

-- = alone, with strategy 1
abbrev pub hash_operators : List Member
hash_operators = member Eq 1 ∷ []

-- `|<| |<=| |=| |>=| |>|`, by absolute value, with strategies 1 to 5
abbrev pub absolute_operators : List Member
absolute_operators = member AbsLt 1 ∷ member AbsLe 2 ∷ member AbsEq 3 ∷ member AbsGe 4 ∷ member AbsGt 5 ∷ []

-- the methods of the default classes
abbrev pub both_methods : List Method
both_methods = Btree ∷ Hash ∷ []

-- PostgreSQL's integer_ops: whole numbers by value, of three widths and in any pairing of these
abbrev pub integer_ops : Row
integer_ops = record {
  family = families.Integer;
  is_default = true;
  types = types.Int2 ∷ types.Int4 ∷ types.Int8 ∷ [];
  btree = ordering_operators;
  hash = hash_operators;
  classes = class Int2Ops (codes "int2_ops") types.Int2 both_methods ∷ class Int4Ops (codes "int4_ops") types.Int4 both_methods ∷ class Int8Ops (codes "int8_ops") types.Int8 both_methods ∷ [];
}

-- PostgreSQL's text_ops, by bytes: as in the collation "C"
abbrev pub text_ops : Row
text_ops = record {
  family = families.Text;
  is_default = true;
  types = types.Text ∷ [];
  btree = ordering_operators;
  hash = hash_operators;
  classes = class TextOps (codes "text_ops") types.Text both_methods ∷ [];
}

-- PostgreSQL's bool_ops: false before true
abbrev pub bool_ops : Row
bool_ops = record {
  family = families.Bool;
  is_default = true;
  types = types.Bool ∷ [];
  btree = ordering_operators;
  hash = hash_operators;
  classes = class BoolOps (codes "bool_ops") types.Bool both_methods ∷ [];
}

-- whole numbers by absolute value: not the default of any type, and without operators for hash indexes (own)
abbrev pub int_abs_ops : Row
int_abs_ops = record {
  family = families.IntAbs;
  is_default = false;
  types = types.Int2 ∷ types.Int4 ∷ types.Int8 ∷ [];
  btree = absolute_operators;
  hash = [];
  classes = class Int2AbsOps (codes "int2_abs_ops") types.Int2 (Btree ∷ []) ∷ class Int4AbsOps (codes "int4_abs_ops") types.Int4 (Btree ∷ []) ∷ class Int8AbsOps (codes "int8_abs_ops") types.Int8 (Btree ∷ []) ∷ [];
}

-- PostgreSQL's uuid_ops: uuids byte by byte
abbrev pub uuid_ops : Row
uuid_ops = record {
  family = families.Uuid;
  is_default = true;
  types = types.Uuid ∷ [];
  btree = ordering_operators;
  hash = hash_operators;
  classes = class UuidOps (codes "uuid_ops") types.Uuid both_methods ∷ [];
}

-- dates: of PostgreSQL's datetime_ops what compares two dates
abbrev pub date_ops : Row
date_ops = record {
  family = families.Date;
  is_default = true;
  types = types.Date ∷ [];
  btree = ordering_operators;
  hash = hash_operators;
  classes = class DateOps (codes "date_ops") types.Date both_methods ∷ [];
}

-- timestamps: of PostgreSQL's datetime_ops what compares two timestamps
abbrev pub timestamp_ops : Row
timestamp_ops = record {
  family = families.Timestamp;
  is_default = true;
  types = types.Timestamp ∷ [];
  btree = ordering_operators;
  hash = hash_operators;
  classes = class TimestampOps (codes "timestamp_ops") types.Timestamp both_methods ∷ [];
}

-- timestamps with time zone: of PostgreSQL's datetime_ops what compares two timestamps with time zone
abbrev pub timestamptz_ops : Row
timestamptz_ops = record {
  family = families.TimestampTz;
  is_default = true;
  types = types.TimestampTz ∷ [];
  btree = ordering_operators;
  hash = hash_operators;
  classes = class TimestampTzOps (codes "timestamptz_ops") types.TimestampTz both_methods ∷ [];
}

-- PostgreSQL's numeric_ops for the numerics of one scale, of any number of digits: numerics of two scales are of two families (own)
abbrev pub numeric_ops : ℕ → Row
numeric_ops scale = record {
  family = families.Numeric scale;
  is_default = true;
  types = types.Numeric 18 scale ∷ [];
  btree = ordering_operators;
  hash = hash_operators;
  classes = class (NumericOps scale) (codes "numeric_ops") (types.Numeric 18 scale) both_methods ∷ [];
}

-- the families, with that of the numerics of one scale; of those that take a type exactly one is its default
abbrev pub table : ℕ → List Row
table scale = integer_ops ∷ text_ops ∷ bool_ops ∷ int_abs_ops ∷ uuid_ops ∷ date_ops ∷ timestamp_ops ∷ timestamptz_ops ∷ numeric_ops scale ∷ []
