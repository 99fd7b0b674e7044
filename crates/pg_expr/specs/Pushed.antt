-- The pushed form of a condition: NOT moved to the atoms, sides placed, nested AND and OR flattened.
-- Source: De Morgan's rules; PostgreSQL, negate_clause and the canonical forms of src/backend/optimizer/prep; the order of the sides is own.
use Rattle.std.specs.Prelude.{◌≡◌, Bool, true, false, not, cond, ◌||◌, ◌&&◌, nat_eq, nat_lt, Option, None, Some}
use Rattle.pg_value.specs.declared.operators.Op.{Op}
use Rattle.pg_value.specs.declared.operators.Op.TheVariants.{AbsEq}
use Rattle.pg_value.specs.Truths.{opposite, negator_of, commutator_of}
use Rattle.pg_expr.specs.declared.operand.ColRef.{ColRef}
use Rattle.pg_expr.specs.declared.operand.Operand.{Operand}
use Rattle.pg_expr.specs.declared.operand.Operand.TheVariants.{Col, Lit}
use Rattle.pg_expr.specs.Cond.{Cond, compare, is_null, is_not_null, bool_col, const, all_of, any_of, negation, Conds, no_conds, cond_and, joined}

-- whether a column is below another, by relation and then by column
abbrev pub is_lower : ColRef → ColRef → Bool
is_lower c d = nat_lt c.rel.0 d.rel.0 || (nat_eq c.rel.0 d.rel.0 && nat_lt c.col.0 d.col.0)

-- whether the sides of a comparison change places: a literal left of a column, or the higher of two columns left
abbrev pub is_turned : Operand → Operand → Bool
is_turned (Col c) (Col d) = is_lower d c
is_turned (Lit v) (Col c) = true
is_turned _ (Lit v) = false

-- a comparison with its sides placed
abbrev pub placed : Op → Operand → Operand → Cond
placed op l r = cond (is_turned l r) (compare (commutator_of op) r l) (compare op l r)

-- NOT of a placed comparison: that of the opposite operator, or the NOT itself where there is none
abbrev pub placed_not : Option Op → Op → Operand → Operand → Cond
placed_not (Some n) op l r = placed n l r
placed_not None op l r = negation (placed op l r)

-- AND of the parts or, where `any`, their OR
abbrev pub group_of : Bool → Conds → Cond
group_of false cs = all_of cs
group_of true cs = any_of cs

-- a condition as parts of an AND or, where `any`, of an OR: those of one of the same kind, else itself
abbrev pub parts_of : Bool → Cond → Conds
parts_of false (all_of cs) = cs
parts_of true (any_of cs) = cs
parts_of _ c = cond_and c no_conds

-- the pushed form of a condition or, where `negated`, of its NOT
abbrev mutual
  pub pushed : Bool → Cond → Cond
  pushed false (compare op l r) = placed op l r
  pushed true (compare op l r) = placed_not (negator_of op) op l r
  pushed false (is_null c) = is_null c
  pushed true (is_null c) = is_not_null c
  pushed false (is_not_null c) = is_not_null c
  pushed true (is_not_null c) = is_null c
  pushed false (bool_col c) = bool_col c
  pushed true (bool_col c) = negation (bool_col c)
  pushed false (const t) = const t
  pushed true (const t) = const (opposite t)
  pushed negated (all_of cs) = group_of negated (pushed_parts negated negated cs)
  pushed negated (any_of cs) = group_of (not negated) (pushed_parts negated (not negated) cs)
  pushed negated (negation c) = pushed (not negated) c

  -- the pushed forms of a list, from the left, as parts of an AND or, where `any`, of an OR
  pub pushed_parts : Bool → Bool → Conds → Conds
  pushed_parts negated any no_conds = no_conds
  pushed_parts negated any (cond_and c cs) = joined (parts_of any (pushed negated c)) (pushed_parts negated any cs)

-- a condition is an AND or, where `any`, an OR
abbrev pub is_group : Bool → Cond → Bool
is_group false (all_of cs) = true
is_group true (any_of cs) = true
is_group _ _ = false

-- NOT may stand on a condition: a boolean column, or `|=|`
abbrev pub KeepsNot : Cond → Type 0
KeepsNot (bool_col c) = Unit {0}
KeepsNot (compare op l r) = op ≡ AbsEq
KeepsNot _ = ⊥

-- a condition is in pushed form: sides are placed, NOT stands on boolean columns and `|=|` alone, no AND is a part of an AND and no OR of an OR
abbrev mutual
  pub IsPushed : Cond → Type 0
  IsPushed (compare op l r) = is_turned l r ≡ false
  IsPushed (is_null c) = Unit {0}
  IsPushed (is_not_null c) = Unit {0}
  IsPushed (bool_col c) = Unit {0}
  IsPushed (const t) = Unit {0}
  IsPushed (all_of cs) = ArePushed false cs
  IsPushed (any_of cs) = ArePushed true cs
  IsPushed (negation c) = KeepsNot c × IsPushed c

  pub ArePushed : Bool → Conds → Type 0
  ArePushed any no_conds = Unit {0}
  ArePushed any (cond_and c cs) = (is_group any c ≡ false) × IsPushed c × ArePushed any cs
