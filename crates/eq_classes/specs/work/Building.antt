-- How the classes are made of the groups, mention by mention. Own.
use Rattle.std.specs.Prelude.{◌≡◌, ◌<◌, ℕ, nat_eq, Bool, false, cond, ◌&&◌, List, [], ◌∷◌, ◌++◌, map, find, insert, Option, Some, None, IsTrue, nat_lt, Vec}
use Rattle.std.specs.List.{list_any, prefix_len}
use Rattle.opfamily.specs.pg_base_Sets.{has}
use Rattle.opfamily.specs.pg_value_operators_Family.{Family}
use Rattle.opfamily.specs.pg_value_value_SqlType.{SqlType}
use Rattle.opfamily.specs.pg_value_value_Value.{Value}
use Rattle.pg_expr.specs.declared.operand.ColRef.{ColRef}
use Rattle.pg_expr.specs.declared.expr.Expr.{Expr}
use Rattle.pg_expr.specs.Cond.{Cond}
use Rattle.pg_expr.specs.Pushed.{is_lower}
use Rattle.pg_expr.specs.work.View as view
use Rattle.eq_classes.specs.declared.order.OrderItem.{OrderItem}
use Rattle.eq_classes.specs.Equality.{Equality, equality_in, is_column, are_equal}
use Rattle.opfamily.specs.Answers.{is_family}
use Rattle.eq_classes.specs.Classes.{Premises, Class, Mention, is_in, left_of, ordered_by, literals, direction_of, AreClasses, in_family, literal_in}
use Rattle.eq_classes.specs.work.Grouping.{Part, grouped}
use Rattle.std.specs.declared.alloc.Global.{Global}
use Rattle.std.specs.Borrow.{Bor}
use Rattle.std.specs.Option.{option_copied}
use Rattle.pg_expr.specs.Columns.{each_column_of}
use Rattle.eq_classes.specs.declared.class.Source.{Source as Handed}

-- what a call is handed
abbrev pub given : (ColRef → SqlType) → List Expr → List OrderItem → Premises
given type_of es order = record { conjuncts = map view.cond es; order = order; type_of = type_of }

-- the columns of the conditions are bound
abbrev pub AreBoundBy : (ColRef → Bool) → List Expr → Type 0
AreBoundBy binds es = IsTrue (each_column_of binds (view.conds es))

-- the relations of the conditions stand below a number
abbrev pub AreOfRelationsBelow : ℕ → List Expr → Type 0
AreOfRelationsBelow n es = IsTrue (each_column_of (λ c. nat_lt c.rel.0 n) (view.conds es))

-- a column put in its place among columns in order, once
abbrev pub inserted : ColRef → List ColRef → List ColRef
inserted c xs = cond (list_any (is_column c) xs) xs (insert xs (prefix_len (λ x. is_lower x c) xs) c)

-- columns put in order of (relation, column) one by one, each once
abbrev pub arranged : List ColRef → List ColRef → List ColRef
arranged [] xs = xs
arranged (c ∷ cs) xs = arranged cs (inserted c xs)

-- a group of the family with the column
abbrev pub is_group_of : Family → ColRef → Part → Bool
is_group_of f x p = is_family f p.family && list_any (is_column x) p.columns

-- the columns of a group in order; without a group the column alone, as one that only ORDER BY names
abbrev pub columns_by : ColRef → Option Part → List ColRef
columns_by x None = x ∷ []
columns_by x (Some p) = arranged p.columns []

-- the members of the class of a column
abbrev pub members_of : List Part → Family → ColRef → List ColRef
members_of ps f x = columns_by x (find (is_group_of f x) ps)

-- a class with these members, as far as its literals and its direction go
abbrev pub over : Family → List ColRef → Class
over f members = record { family = f; members = members; constants = []; descending = false; nulls_first = false }

-- the literal that a condition gives the class of these members
abbrev pub literal_by : (ColRef → SqlType) → Family → List ColRef → Expr → Option Value
literal_by type_of f members k = literal_in (over f members) (equality_in type_of (view.cond k))

-- the direction of the class of these members, by ORDER BY
abbrev pub order_direction : (ColRef → SqlType) → List OrderItem → Family → List ColRef → Bool × Bool
order_direction type_of order f members = direction_of (given type_of [] order) (over f members)

-- a value noted where none noted is equal
abbrev pub with_value : Family → Value → List Value → List Value
with_value f v known = cond (list_any (are_equal f v) known) known (known ++ v ∷ [])

-- values noted where none noted is equal
abbrev pub noted : Family → List Value → List Value → List Value
noted f [] known = known
noted f (v ∷ vs) known = noted f vs (with_value f v known)

-- one literal noted as a constant, where there is one and none equal to it in the family is
abbrev pub noted_option : Family → Option Value → List Value → List Value
noted_option f None known = known
noted_option f (Some v) known = with_value f v known

-- the literal that is lent noted, where one is
abbrev pub with_lent : Family → Option (Bor Value) → List Value → List Value
with_lent f found known = noted_option f (option_copied found) known

-- values are the constants that conditions give the class of these members
abbrev pub AreConstantsBy : (ColRef → SqlType) → List Expr → Family → List ColRef → Vec Value Global → Type 0
AreConstantsBy type_of es f members values = values.items ≡ noted f (literals (given type_of es []) (over f members)) []

-- the class of these members, with its constants in the order written and the direction that ORDER BY gives it
abbrev pub class_with : Premises → Family → List ColRef → Class
class_with g f members = record {
  family = f;
  members = members;
  constants = noted f (literals g (over f members)) [];
  descending = (direction_of g (over f members)).0;
  nulls_first = (direction_of g (over f members)).1;
}

-- the classes with that of a mention, where none is there yet
abbrev pub with_mention : Premises → List Part → Option Mention → List Class → List Class
with_mention g ps None cs = cs
with_mention g ps (Some m) cs = cond (list_any (λ c. is_in c m) cs) cs (cs ++ class_with g m.family (members_of ps m.family m.column) ∷ [])

-- the left column of an equality conjunct beside its family; none of any other conjunct
abbrev pub left_by : Option Equality → Option Mention
left_by None = None
left_by (Some e) = Some (left_of e)

-- the column and family by which a conjunct names its class; none where it is no equality
abbrev pub mention_in : (ColRef → SqlType) → Cond → Option Mention
mention_in type_of k = left_by (equality_in type_of k)

-- some classes, then those of the equality conjuncts that none of them has
abbrev pub by_conjuncts : Premises → List Part → List Cond → List Class → List Class
by_conjuncts g ps [] cs = cs
by_conjuncts g ps (k ∷ ks) cs = by_conjuncts g ps ks (with_mention g ps (mention_in g.type_of k) cs)

-- some classes, then those of ORDER BY columns that are in none of them
abbrev pub by_order : Premises → List Part → List OrderItem → List Class → List Class
by_order g ps [] cs = cs
by_order g ps (i ∷ is) cs = by_order g ps is (with_mention g ps (ordered_by g.type_of i) cs)

-- all classes of the premises: numbered by their first conjunct, those that ORDER BY alone names behind them
abbrev pub all_classes : Premises → List Class
all_classes g =
    let ps = grouped g.type_of g.conjuncts [] in
    by_order g ps g.order (by_conjuncts g ps g.conjuncts [])

-- a set holds the relations below 16 of the columns
abbrev pub IsMasked : ℕ → List ColRef → Type 0
IsMasked set columns = (k : ℕ) → k < 16 → has set k ≡ list_any (λ x. nat_eq x.rel.0 k) columns

-- classes are those of conditions and an ORDER BY
abbrev pub AreClassesFrom : (ColRef → SqlType) → List Expr → List OrderItem → Vec Class Global → Type 0
AreClassesFrom type_of es order classes = AreClasses (given type_of es order) classes.items

module _ {B : Type 0} (type_of : B → ColRef → SqlType) (from : Handed B) where
  -- what the classes are made of
  abbrev pub handed_premises : Premises
  handed_premises = given (type_of from.typed.now) from.conjuncts.now from.order.now

  -- the class of a column in a family
  abbrev pub class_from : Family → ColRef → Class
  class_from f x = class_with handed_premises f (members_of from.groups.now f x)

  -- the classes after a mention, or after none
  abbrev pub PlacesMention : Option Mention → Vec Class Global → Vec Class Global → Type 0
  PlacesMention m old new = new.items ≡ with_mention handed_premises from.groups.now m old.items

  -- the classes have gained that of a column in a family, where none was there
  abbrev pub PlacesColumn : Family → ColRef → Vec Class Global → Vec Class Global → Type 0
  PlacesColumn f x old new = PlacesMention (Some (in_family x f)) old new

  -- or that of the left column of a condition, where it is an equality conjunct
  abbrev pub PlacesConjunct : Expr → Vec Class Global → Vec Class Global → Type 0
  PlacesConjunct k old new = PlacesMention (mention_in (type_of from.typed.now) (view.cond k)) old new

  -- or that of an item of ORDER BY
  abbrev pub PlacesItem : OrderItem → Vec Class Global → Vec Class Global → Type 0
  PlacesItem item old new = PlacesMention (ordered_by (type_of from.typed.now) item) old new

  -- or those of all conjuncts
  abbrev pub PlacesConjuncts : Vec Class Global → Vec Class Global → Type 0
  PlacesConjuncts old new = new.items ≡ by_conjuncts handed_premises from.groups.now (map view.cond from.conjuncts.now) old.items

  -- or those of all items of ORDER BY
  abbrev pub PlacesItems : Vec Class Global → Vec Class Global → Type 0
  PlacesItems old new = new.items ≡ by_order handed_premises from.groups.now from.order.now old.items
