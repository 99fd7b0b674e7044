-- Conditions as trees, with no pointers in them. A definition about conditions speaks of these. Own.
use Rattle.std.specs.Prelude.{List, [], ◌∷◌}
use Rattle.pg_value.specs.declared.operators.Op.{Op}
use Rattle.pg_value.specs.declared.operators.Truth.{Truth}
use Rattle.pg_expr.specs.declared.operand.ColRef.{ColRef}
use Rattle.pg_expr.specs.declared.operand.Operand.{Operand}

mutual
  pub data Cond : Type 0 where
    compare : Op → Operand → Operand → Cond
    is_null : ColRef → Cond
    is_not_null : ColRef → Cond
    bool_col : ColRef → Cond
    const : Truth → Cond
    all_of : Conds → Cond
    any_of : Conds → Cond
    negation : Cond → Cond

  pub data Conds : Type 0 where
    no_conds : Conds
    cond_and : Cond → Conds → Conds

-- the conditions of a list, in its order
abbrev pub conds_of : List Cond → Conds
conds_of [] = no_conds
conds_of (c ∷ cs) = cond_and c (conds_of cs)

-- the first conditions, and after them the others
abbrev pub joined : Conds → Conds → Conds
joined no_conds ds = ds
joined (cond_and c cs) ds = cond_and c (joined cs ds)
