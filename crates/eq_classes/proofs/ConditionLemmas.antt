-- Lists of conditions.
use Rattle.std.proofs.Common.{◌≡◌, List, [], ◌∷◌, refl, ap}
use Rattle.pg_expr.specs.Cond.{Cond, conds_of}
use Rattle.eq_classes.specs.Classes.{listed}

-- a list of conditions, listed
pub listed_conds : (es : List Cond) → listed (conds_of es) ≡ es
listed_conds [] = refl
listed_conds (e ∷ es) = ap (λ (xs : List Cond). e ∷ xs) (listed_conds es)
