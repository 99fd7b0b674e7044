-- The classes of a list of conjuncts in pushed form and an ORDER BY.
-- Source: PostgreSQL, src/backend/optimizer/README (EquivalenceClasses); numbers and orders are own.
use Rattle.std.specs.Prelude.{◌≡◌, ◌↔◌, flat_map, ◌<◌, ℕ, Bool, true, false, not, cond, ◌&&◌, IsTrue, List, [], ◌∷◌, ◌++◌, length, filter, find, filter_map, All, AllPairs, Contains, Option, Some, None, option_map}
use Rattle.std.specs.List.{list_any, position_or_len, position_from}
use Rattle.opfamily.specs.pg_value_operators_Family.{Family}
use Rattle.opfamily.specs.pg_value_operators_Family_TheVariants as families
use Rattle.opfamily.specs.pg_value_value_SqlType.{SqlType}
use Rattle.opfamily.specs.pg_value_value_Value.{Value}
use Rattle.opfamily.specs.Answers.{is_family, default_family_of}
use Rattle.pg_expr.specs.declared.operand.ColRef.{ColRef}
use Rattle.pg_expr.specs.declared.operand.Operand.{Operand}
use Rattle.pg_expr.specs.declared.operand.Operand.TheVariants.{Col, Lit}
use Rattle.pg_expr.specs.Cond.{Cond, Conds, no_conds, cond_and}
use Rattle.pg_expr.specs.Conjuncts.{conjuncts_of}
use Rattle.pg_expr.specs.Pushed.{is_lower, pushed}
use Rattle.eq_classes.specs.declared.order.OrderItem.{OrderItem}
use Rattle.eq_classes.specs.Equality.{Equality, equal_in, equality_in, is_column, are_equal}

-- what classes are made of: the conjuncts in order, the ORDER BY, and the types of the columns
pub record Premises : Type 0 where
  pub conjuncts : List Cond
  pub order : List OrderItem
  pub type_of : ColRef → SqlType

-- a chain of equality conjuncts of the family joins two columns or literals: the least equivalence that holds between
-- the sides of each of them, where literals that are equal in the family are one constant
pub data Linked (g : Premises) (f : Family) : Operand → Operand → Type 0 where
  conjunct : (k : Cond) (c : ColRef) (o : Operand) → Contains g.conjuncts k → equality_in g.type_of k ≡ Some (equal_in c o f) → Linked g f (Col c) o
  constant : (v w : Value) → are_equal f v w ≡ true → Linked g f (Lit v) (Lit w)
  same : (x : Operand) → Linked g f x x
  turned : (x y : Operand) → Linked g f x y → Linked g f y x
  chain : (x y z : Operand) → Linked g f x y → Linked g f y z → Linked g f x z

-- a class: its family, its columns, its constants, and the direction in which lists are sorted by it
pub record Class : Type 0 where
  pub family : Family
  pub members : List ColRef
  pub constants : List Value
  pub descending : Bool
  pub nulls_first : Bool

-- a column is one of the class's, whatever the family
abbrev pub has_member : Class → ColRef → Bool
has_member c x = list_any (is_column x) c.members

-- a column beside a family, as a conjunct or an ORDER BY names it
pub record Mention : Type 0 where
  pub family : Family
  pub column : ColRef

-- a column beside a family is in a class: it is a member, and the class is of this family; classes of different families stay apart (README, EquivalenceClasses: ec_opfamilies)
abbrev pub is_in : Class → Mention → Bool
is_in c m = is_family c.family m.family && has_member c m.column

-- the left column of an equality conjunct beside its family: by these its class is found
abbrev pub left_of : Equality → Mention
left_of e = record { family = e.family; column = e.left }

-- a column beside the family in which its class is looked for
abbrev pub in_family : ColRef → Family → Mention
in_family x f = record { family = f; column = x }

-- the number of the class that has a column in a family, or none
abbrev pub class_number : List Class → Mention → Option ℕ
class_number classes m = position_from (λ c. is_in c m) 0 classes

-- a family is that of absolute values, in which a column stands by an operator alone and never by its type
abbrev pub is_abs : Family → Bool
is_abs families.IntAbs = true
is_abs _ = false

-- a class of another family than that of absolute values has the column
abbrev pub is_plain : ColRef → Class → Bool
is_plain x c = not (is_abs c.family) && has_member c x

-- the number of the class that has a column in the family of its type, or none: a well typed query has it in one class at most but those of absolute values
abbrev pub plain_class : List Class → ColRef → Option ℕ
plain_class classes x = position_from (is_plain x) 0 classes

-- an ORDER BY item's column beside its default family
abbrev pub ordered_by : (ColRef → SqlType) → OrderItem → Option Mention
ordered_by type_of item = option_map (in_family item.col) (default_family_of (type_of item.col))

-- the left sides of the equality conjuncts in order, then the columns of ORDER BY in order
abbrev pub mentions : Premises → List Mention
mentions g = filter_map (λ k. option_map left_of (equality_in g.type_of k)) g.conjuncts ++ filter_map (ordered_by g.type_of) g.order

-- the place of the first conjunct of a class, or that of its column in ORDER BY where it has no conjunct
abbrev pub first_mention : Premises → Class → ℕ
first_mention g c = position_or_len (is_in c) (mentions g)

-- the literal on the right of an equality; none where a column stands there
abbrev pub literal_of : Operand → Option Value
literal_of (Col d) = None
literal_of (Lit v) = Some v

-- the literal of an equality conjunct of the class's family whose left column is a member
abbrev pub literal_in : Class → Option Equality → Option Value
literal_in c None = None
literal_in c (Some e) = cond (is_in c (left_of e)) (literal_of e.right) None

-- the literals of a class in the order in which the conjuncts write them
abbrev pub literals : Premises → Class → List Value
literals g c = filter_map (λ k. literal_in c (equality_in g.type_of k)) g.conjuncts

-- each value that is equal in the family to none before it: of equal literals the first written
abbrev pub distinct : Family → List Value → List Value
distinct f [] = []
distinct f (v ∷ vs) = v ∷ filter (λ w. not (are_equal f v w)) (distinct f vs)

-- there is a value, and it passes a test
abbrev pub is_some_and : {A : Type 0} → (A → Bool) → Option A → Bool
is_some_and test None = false
is_some_and test (Some x) = test x

-- whether an ORDER BY item is by the class
abbrev pub orders_by : (ColRef → SqlType) → Class → OrderItem → Bool
orders_by type_of c item = is_some_and (is_in c) (ordered_by type_of item)

-- descending and nulls first as the item says; ascending and nulls last where there is none
abbrev pub direction_by : Option OrderItem → Bool × Bool
direction_by None = (false, false)
direction_by (Some item) = (item.descending, item.nulls_first)

-- the direction of the first item by the class
abbrev pub direction_of : Premises → Class → Bool × Bool
direction_of g c = direction_by (find (orders_by g.type_of c) g.order)

-- what a class is, whatever its number
pub record IsClass (g : Premises) (c : Class) : Type 0 where
  -- another column is in the class of a member exactly where a chain of equality conjuncts joins them
  pub joined : (x y : ColRef) → IsTrue (has_member c x) → (IsTrue (has_member c y) ↔ Linked g c.family (Col x) (Col y))
  -- its members are in the order of (relation, column), each once
  pub rising : AllPairs (λ x y. IsTrue (is_lower x y)) c.members
  -- its constants are its literals, equal ones once, as first written
  pub constants : c.constants ≡ distinct c.family (literals g c)
  pub direction : (c.descending, c.nulls_first) ≡ direction_of g c

-- the classes in the order of their numbers
pub record AreClasses (g : Premises) (classes : List Class) : Type 0 where
  pub each : All (IsClass g) classes
  -- each equality conjunct has a class, and each ORDER BY column has one of its default family
  pub every : All (λ m. IsTrue (list_any (λ c. is_in c m) classes)) (mentions g)
  -- there is no other class
  pub none_else : All (λ c. first_mention g c < length (mentions g)) classes
  -- the classes are numbered by their first conjunct, then by place in ORDER BY
  pub numbered : AllPairs (λ c d. first_mention g c < first_mention g d) classes

-- the conditions of a list, in order
abbrev pub listed : Conds → List Cond
listed no_conds = []
listed (cond_and c cs) = c ∷ listed cs

-- the conjuncts of conditions as written: those of the ON conditions in order and of WHERE, each first put in pushed form
abbrev pub conjuncts_in : List Cond → List Cond
conjuncts_in ws = flat_map (λ w. listed (conjuncts_of (pushed false w))) ws
