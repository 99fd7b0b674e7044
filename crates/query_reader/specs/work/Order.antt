-- Working words beside those of `Order`.
use Rattle.std.specs.Prelude.{ℕ, List, None}
use Rattle.pg_expr.specs.declared.operand.ColRef.{ColRef}
use Rattle.expr_reader.specs.declared.found.Found.{Found}
use Rattle.expr_reader.specs.Scope.{Scope, look_up}
use Rattle.query_reader.specs.Order.{shown_of_name, first_among}

-- what a name alone means: it is sought in the select list first
abbrev pub ordered_name : Scope → List ColRef → List ℕ → Found
ordered_name scope select name = first_among (shown_of_name scope select name) (look_up scope None name)
