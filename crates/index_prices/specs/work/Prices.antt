-- Working words beside those of `Prices`.
use Rattle.std.specs.Prelude.{ℕ, ◌+◌, ◌*◌, cond, List, [], ◌∷◌, Option, Some, None}
use Rattle.catalog.specs.Contents.{NamedIndex}
use Rattle.sql_query.specs.Queries.{Query}
use Rattle.plan_laws.specs.work.Moved.{is_read}

-- the candidates on a query's tables, as a number whose bit j stands for candidate j
abbrev pub read_by : Query → List NamedIndex → ℕ
read_by q [] = 0
read_by q (x ∷ xs) = cond (is_read q x) 1 0 + 2 * read_by q xs

-- of no query there are none
abbrev pub concerns_of : Option Query → List NamedIndex → ℕ
concerns_of None candidates = 0
concerns_of (Some q) candidates = read_by q candidates
