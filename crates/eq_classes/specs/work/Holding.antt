-- Working words beside those of `Holding`.
use Rattle.std.specs.Prelude.{◌≡◌, Bool, true, not, ◌&&◌, ◌||◌, List, [], ◌∷◌, Contains}
use Rattle.opfamily.specs.pg_value_value_SqlType.{SqlType}
use Rattle.opfamily.specs.pg_value_value_Value.{Value}
use Rattle.opfamily.specs.pg_value_Types.{IsOfType}
use Rattle.opfamily.specs.pg_value_Truths.{is_true}
use Rattle.pg_expr.specs.declared.operand.ColRef.{ColRef}
use Rattle.pg_expr.specs.Truths.{truth_at}
use Rattle.eq_classes.specs.Classes.{Class}
use Rattle.eq_classes.specs.Clauses.{Set, Clause, ClassTable}
use Rattle.pg_expr.specs.declared.expr.Exprs.{Exprs}
use Rattle.eq_classes.specs.declared.order.OrderItem.{OrderItem}
use Rattle.eq_classes.specs.work.Building.{given}
use Rattle.eq_classes.specs.Holding.{IsClassTable}

-- each clause that is chosen is True where the columns have these values; only True counts
abbrev pub hold : (ColRef → Value) → (Clause → Bool) → List Clause → Bool
hold value_at chosen [] = true
hold value_at chosen (k ∷ ks) = (not (chosen k) || is_true (truth_at value_at k.cond)) && hold value_at chosen ks

-- each column has a value that is NULL or of its type
abbrev pub Fits : (ColRef → SqlType) → (ColRef → Value) → Type 0
Fits type_of value_at = (c : ColRef) → IsOfType (type_of c) (value_at c)

-- the table of conditions and an ORDER BY
abbrev pub IsTableFrom : (ColRef → SqlType) → Exprs → List OrderItem → ClassTable → Type 0
IsTableFrom type_of conjuncts order t = IsClassTable (given type_of conjuncts.items.items order) t

-- the columns of the relations of a set have the same values
abbrev pub AgreeOn : Set → (ColRef → Value) → (ColRef → Value) → Type 0
AgreeOn s b d = (x : ColRef) → s x.rel.0 ≡ true → b x ≡ d x

-- a class of the table
abbrev pub HasClass : ClassTable → Class → Type 0
HasClass t c = Contains t.classes c
