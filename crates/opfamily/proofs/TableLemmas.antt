-- Facts of every operator, family, type, class and method, each computed over the list of them all.
use Rattle.std.proofs.Common.{◌≡◌, ◌<◌, ◌||◌, ◌∙◌, ℕ, Bool, true, false, not, List, [], ◌∷◌, length, get_or, refl, sym, arith}
use Rattle.std.specs.List.{list_all}
use Rattle.std.proofs.lemmas.Bool.{true≢false}
use Rattle.std.proofs.lemmas.List.Folds.{list_all_at}
use Rattle.pg_value.specs.declared.operators.Family.{Family}
use Rattle.pg_value.specs.declared.operators.Family.TheVariants as families
use Rattle.pg_value.specs.declared.operators.Op.{Op}
use Rattle.pg_value.specs.declared.operators.Op.TheVariants.{Lt, Le, Eq, Ge, Gt, Ne, AbsLt, AbsLe, AbsEq, AbsGe, AbsGt}
use Rattle.pg_value.specs.declared.value.SqlType.{SqlType}
use Rattle.pg_value.specs.declared.value.SqlType.TheVariants as types
use Rattle.opfamily.specs.declared.classes.Method.{Method}
use Rattle.opfamily.specs.declared.classes.Method.TheVariants.{Btree, Hash}
use Rattle.opfamily.specs.declared.classes.OpClass.{OpClass}
use Rattle.opfamily.specs.declared.classes.OpClass.TheVariants as classes

passes-at : {A : Type 0} (p : A → Bool) (xs : List A) (k : ℕ) (d : A) → list_all p xs ≡ true → k < length xs → p (get_or xs k d) ≡ true
passes-at p xs k d all lt = by (p (get_or xs k d)) refl
  where
    by : (b : Bool) → p (get_or xs k d) ≡ b → b ≡ true
    by true e = refl
    by false e = absurd (true≢false (sym all ∙ list_all_at p xs k d lt e))

-- one test gives another
pub implied : (a b : Bool) → not a || b ≡ true → a ≡ true → b ≡ true
implied true b h is = h
implied false b h is = absurd (true≢false (sym is))

abbrev pub all_operators : List Op
all_operators = Lt ∷ Le ∷ Eq ∷ Ge ∷ Gt ∷ Ne ∷ AbsLt ∷ AbsLe ∷ AbsEq ∷ AbsGe ∷ AbsGt ∷ []

-- the families, with that of one scale, and the types, with one numeric type, and the classes, with that of one scale
abbrev pub all_families : ℕ → List Family
all_families scale = families.Integer ∷ families.IntAbs ∷ families.Text ∷ families.Bool ∷ families.Uuid ∷ families.Date ∷ families.Timestamp ∷ families.TimestampTz ∷ families.Numeric scale ∷ []

abbrev pub all_types : ℕ → ℕ → List SqlType
all_types digits scale = types.Int2 ∷ types.Int4 ∷ types.Int8 ∷ types.Text ∷ types.Bool ∷ types.Uuid ∷ types.Date ∷ types.Timestamp ∷ types.TimestampTz ∷ types.Numeric digits scale ∷ []

abbrev pub all_classes : ℕ → List OpClass
all_classes scale =
    classes.Int2Ops ∷ classes.Int4Ops ∷ classes.Int8Ops ∷ classes.TextOps ∷ classes.BoolOps ∷ classes.Int2AbsOps ∷ classes.Int4AbsOps ∷ classes.Int8AbsOps ∷
    classes.UuidOps ∷ classes.DateOps ∷ classes.TimestampOps ∷ classes.TimestampTzOps ∷ classes.NumericOps scale ∷ []

pub every_operator : (p : Op → Bool) → list_all p all_operators ≡ true → (op : Op) → p op ≡ true
every_operator p all Lt = let lt : 0 < 11 = omega arith in passes-at p all_operators 0 Lt all lt
every_operator p all Le = let lt : 1 < 11 = omega arith in passes-at p all_operators 1 Lt all lt
every_operator p all Eq = let lt : 2 < 11 = omega arith in passes-at p all_operators 2 Lt all lt
every_operator p all Ge = let lt : 3 < 11 = omega arith in passes-at p all_operators 3 Lt all lt
every_operator p all Gt = let lt : 4 < 11 = omega arith in passes-at p all_operators 4 Lt all lt
every_operator p all Ne = let lt : 5 < 11 = omega arith in passes-at p all_operators 5 Lt all lt
every_operator p all AbsLt = let lt : 6 < 11 = omega arith in passes-at p all_operators 6 Lt all lt
every_operator p all AbsLe = let lt : 7 < 11 = omega arith in passes-at p all_operators 7 Lt all lt
every_operator p all AbsEq = let lt : 8 < 11 = omega arith in passes-at p all_operators 8 Lt all lt
every_operator p all AbsGe = let lt : 9 < 11 = omega arith in passes-at p all_operators 9 Lt all lt
every_operator p all AbsGt = let lt : 10 < 11 = omega arith in passes-at p all_operators 10 Lt all lt

pub every_family : (p : Family → Bool) → ((scale : ℕ) → list_all p (all_families scale) ≡ true) → (f : Family) → p f ≡ true
every_family p all families.Integer = let lt : 0 < 9 = omega arith in passes-at p (all_families 0) 0 families.Integer (all 0) lt
every_family p all families.IntAbs = let lt : 1 < 9 = omega arith in passes-at p (all_families 0) 1 families.Integer (all 0) lt
every_family p all families.Text = let lt : 2 < 9 = omega arith in passes-at p (all_families 0) 2 families.Integer (all 0) lt
every_family p all families.Bool = let lt : 3 < 9 = omega arith in passes-at p (all_families 0) 3 families.Integer (all 0) lt
every_family p all families.Uuid = let lt : 4 < 9 = omega arith in passes-at p (all_families 0) 4 families.Integer (all 0) lt
every_family p all families.Date = let lt : 5 < 9 = omega arith in passes-at p (all_families 0) 5 families.Integer (all 0) lt
every_family p all families.Timestamp = let lt : 6 < 9 = omega arith in passes-at p (all_families 0) 6 families.Integer (all 0) lt
every_family p all families.TimestampTz = let lt : 7 < 9 = omega arith in passes-at p (all_families 0) 7 families.Integer (all 0) lt
every_family p all (families.Numeric scale) = let lt : 8 < 9 = omega arith in passes-at p (all_families scale) 8 families.Integer (all scale) lt

pub every_type : (p : SqlType → Bool) → ((digits scale : ℕ) → list_all p (all_types digits scale) ≡ true) → (t : SqlType) → p t ≡ true
every_type p all types.Int2 = let lt : 0 < 10 = omega arith in passes-at p (all_types 0 0) 0 types.Int2 (all 0 0) lt
every_type p all types.Int4 = let lt : 1 < 10 = omega arith in passes-at p (all_types 0 0) 1 types.Int2 (all 0 0) lt
every_type p all types.Int8 = let lt : 2 < 10 = omega arith in passes-at p (all_types 0 0) 2 types.Int2 (all 0 0) lt
every_type p all types.Text = let lt : 3 < 10 = omega arith in passes-at p (all_types 0 0) 3 types.Int2 (all 0 0) lt
every_type p all types.Bool = let lt : 4 < 10 = omega arith in passes-at p (all_types 0 0) 4 types.Int2 (all 0 0) lt
every_type p all types.Uuid = let lt : 5 < 10 = omega arith in passes-at p (all_types 0 0) 5 types.Int2 (all 0 0) lt
every_type p all types.Date = let lt : 6 < 10 = omega arith in passes-at p (all_types 0 0) 6 types.Int2 (all 0 0) lt
every_type p all types.Timestamp = let lt : 7 < 10 = omega arith in passes-at p (all_types 0 0) 7 types.Int2 (all 0 0) lt
every_type p all types.TimestampTz = let lt : 8 < 10 = omega arith in passes-at p (all_types 0 0) 8 types.Int2 (all 0 0) lt
every_type p all (types.Numeric digits scale) = let lt : 9 < 10 = omega arith in passes-at p (all_types digits scale) 9 types.Int2 (all digits scale) lt

pub every_class : (p : OpClass → Bool) → ((scale : ℕ) → list_all p (all_classes scale) ≡ true) → (c : OpClass) → p c ≡ true
every_class p all classes.Int2Ops = let lt : 0 < 13 = omega arith in passes-at p (all_classes 0) 0 classes.Int2Ops (all 0) lt
every_class p all classes.Int4Ops = let lt : 1 < 13 = omega arith in passes-at p (all_classes 0) 1 classes.Int2Ops (all 0) lt
every_class p all classes.Int8Ops = let lt : 2 < 13 = omega arith in passes-at p (all_classes 0) 2 classes.Int2Ops (all 0) lt
every_class p all classes.TextOps = let lt : 3 < 13 = omega arith in passes-at p (all_classes 0) 3 classes.Int2Ops (all 0) lt
every_class p all classes.BoolOps = let lt : 4 < 13 = omega arith in passes-at p (all_classes 0) 4 classes.Int2Ops (all 0) lt
every_class p all classes.Int2AbsOps = let lt : 5 < 13 = omega arith in passes-at p (all_classes 0) 5 classes.Int2Ops (all 0) lt
every_class p all classes.Int4AbsOps = let lt : 6 < 13 = omega arith in passes-at p (all_classes 0) 6 classes.Int2Ops (all 0) lt
every_class p all classes.Int8AbsOps = let lt : 7 < 13 = omega arith in passes-at p (all_classes 0) 7 classes.Int2Ops (all 0) lt
every_class p all classes.UuidOps = let lt : 8 < 13 = omega arith in passes-at p (all_classes 0) 8 classes.Int2Ops (all 0) lt
every_class p all classes.DateOps = let lt : 9 < 13 = omega arith in passes-at p (all_classes 0) 9 classes.Int2Ops (all 0) lt
every_class p all classes.TimestampOps = let lt : 10 < 13 = omega arith in passes-at p (all_classes 0) 10 classes.Int2Ops (all 0) lt
every_class p all classes.TimestampTzOps = let lt : 11 < 13 = omega arith in passes-at p (all_classes 0) 11 classes.Int2Ops (all 0) lt
every_class p all (classes.NumericOps scale) = let lt : 12 < 13 = omega arith in passes-at p (all_classes scale) 12 classes.Int2Ops (all scale) lt

pub every_method : (p : Method → Bool) → p Btree ≡ true → p Hash ≡ true → (m : Method) → p m ≡ true
every_method p ordered hashed Btree = ordered
every_method p ordered hashed Hash = hashed

-- a test of families and operators
pub every_pair : (p : Family → Op → Bool) → ((scale : ℕ) → list_all (λ f. list_all (p f) all_operators) (all_families scale) ≡ true) → (f : Family) (op : Op) → p f op ≡ true
every_pair p all f op = every_operator (p f) (every_family (λ g. list_all (p g) all_operators) all f) op
