-- The operators by their spellings (PostgreSQL manual, chapter Comparison Functions and Operators; those between bars are own).
use Rattle.std.specs.Prelude.{ℕ, List, [], ◌∷◌, codes, find, bytes_eq, Option, option_map}
use Rattle.pg_value.specs.declared.operators.Op.{Op}
use Rattle.pg_value.specs.declared.operators.Op.TheVariants.{Lt, Le, Eq, Ge, Gt, Ne, AbsLt, AbsLe, AbsEq, AbsGe, AbsGt}

-- `!=` is `<>`
abbrev pub spelled_operators : List (List ℕ × Op)
spelled_operators =
    (codes "<", Lt) ∷ (codes "<=", Le) ∷ (codes "=", Eq) ∷ (codes ">=", Ge) ∷ (codes ">", Gt) ∷ (codes "<>", Ne) ∷ (codes "!=", Ne) ∷
    (codes "|<|", AbsLt) ∷ (codes "|<=|", AbsLe) ∷ (codes "|=|", AbsEq) ∷ (codes "|>=|", AbsGe) ∷ (codes "|>|", AbsGt) ∷ []

-- the operator of this spelling
abbrev pub operator_of : List ℕ → Option Op
operator_of bytes = option_map (λ row. row.1) (find (λ row. bytes_eq row.0 bytes) spelled_operators)
