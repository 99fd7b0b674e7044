-- Working words beside those of `Clauses`.
use Rattle.std.specs.Prelude.{cond, List, [], ◌∷◌}
use Rattle.pg_expr.specs.declared.operand.ColRef.{ColRef}
use Rattle.eq_classes.specs.Classes.{Class}
use Rattle.eq_classes.specs.Clauses.{is_first}

-- a member as a list of one where it is the first of its relation, else none
abbrev pub as_first : Class → ColRef → List ColRef
as_first c x = cond (is_first c x) (x ∷ []) []
