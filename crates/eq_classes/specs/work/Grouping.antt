-- Working words beside those of `Grouping`.
use Rattle.std.specs.Prelude.{Bool, cond, ◌&&◌, ◌||◌, List, [], ◌∷◌, ◌++◌, Option, Some, None, map}
use Rattle.std.specs.List.{list_any}
use Rattle.opfamily.specs.pg_value_operators_Family.{Family}
use Rattle.opfamily.specs.pg_value_value_SqlType.{SqlType}
use Rattle.opfamily.specs.pg_value_value_Value.{Value}
use Rattle.opfamily.specs.pg_value_work_Order.{IsOfFamily}
use Rattle.pg_expr.specs.declared.operand.ColRef.{ColRef}
use Rattle.pg_expr.specs.declared.operand.Operand.{Operand}
use Rattle.pg_expr.specs.declared.operand.Operand.TheVariants.{Col, Lit}
use Rattle.pg_expr.specs.Cond.{Cond}
use Rattle.pg_expr.specs.work.View as view
use Rattle.eq_classes.specs.Equality.{Equality, equality_in, is_column, are_equal}
use Rattle.opfamily.specs.Answers.{is_family}
use Rattle.pg_expr.specs.declared.expr.Expr.{Expr}
use Rattle.eq_classes.specs.Grouping.{operand_columns}

-- a group in a family: what the conjuncts so far make equal, columns and literals as they were written
pub record Part : Type 0 where
  pub family : Family
  pub columns : List ColRef
  pub literals : List Value

-- whether a column, or a literal equal to this one, is in a group
abbrev pub has_side : Part → Operand → Bool
has_side p (Col c) = list_any (is_column c) p.columns
has_side p (Lit v) = list_any (are_equal p.family v) p.literals

-- a literal of the family's kind, or a column
abbrev pub Suits : Family → Operand → Type 0
Suits f (Col c) = Unit {0}
Suits f (Lit v) = IsOfFamily f v

-- an operand's literal, as a list of one; none of a column
abbrev pub literals_in : Operand → List Value
literals_in (Col c) = []
literals_in (Lit v) = v ∷ []

-- the group of one conjunct
abbrev pub started : Family → ColRef → Operand → Part
started f l r = record { family = f; columns = l ∷ operand_columns r; literals = literals_in r }

-- two groups of a family as one, where a conjunct joins them
abbrev pub united : Part → Part → Part
united p q = record { family = p.family; columns = p.columns ++ q.columns; literals = p.literals ++ q.literals }

-- whether a group has a side of a conjunct of its family
abbrev pub touches : Family → ColRef → Operand → Part → Bool
touches f l r p = is_family f p.family && (has_side p (Col l) || has_side p r)

-- the groups that a conjunct does not touch, then those that it touches as one
abbrev pub gathered : Family → ColRef → Operand → List Part → List Part → Part → List Part
gathered f l r [] rest joined = rest ++ joined ∷ []
gathered f l r (p ∷ ps) rest joined = cond (touches f l r p) (gathered f l r ps rest (united joined p)) (gathered f l r ps (rest ++ p ∷ []) joined)

-- the groups after an equality conjunct with these sides
abbrev pub regrouped : Family → ColRef → Operand → List Part → List Part
regrouped f l r ps = gathered f l r ps [] (started f l r)

-- the groups after a conjunct; one that is no equality leaves them as they are
abbrev pub added : Option Equality → List Part → List Part
added None ps = ps
added (Some e) ps = regrouped e.family e.left e.right ps

-- conjunct by conjunct
abbrev pub grouped : (ColRef → SqlType) → List Cond → List Part → List Part
grouped type_of [] ps = ps
grouped type_of (k ∷ ks) ps = grouped type_of ks (added (equality_in type_of k) ps)

-- the groups that conditions of a query make
abbrev pub groups_among : (ColRef → SqlType) → List Expr → List Part
groups_among type_of es = grouped type_of (map view.cond es) []
