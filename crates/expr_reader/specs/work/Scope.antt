-- Working words beside those of `Scope`.
use Rattle.std.specs.Prelude.{ℕ, List}
use Rattle.expr_reader.specs.Scope.{Visible}

-- a column of a relation under an alias
abbrev pub shown : List ℕ → List ℕ → ℕ → ℕ → Visible
shown alias name rel col = record { alias = alias; name = name; column = record { rel = record { 0 = rel }; col = record { 0 = col } } }
